-- Laws of the values that are read one after the other. Assumes nothing.
use Prim.Native.Nat.{ℕ, zero, suc, ◌+◌, ◌<◌}
use mathlib.Core.Path.{◌≡◌, refl}
use mathlib.Core.Logic.{⊎_elim}
use mathlib.Core.List.{List}
use native.Mathlib.Nat.{not-suc-le-zero, le_of_suc-le-suc, eq-or-lt_of_le}
use native.Mathlib.Numerals.{add-one}
use lib.ListN.{set}
use Rattle.std.specs.Prelude.{Option, Some, None}
use Rattle.record.specs.Words.{with_field}
use Rattle.fields.specs.Fields.{field_of}
use Rattle.fields.specs.Number.{number_of}
use Rattle.rules.specs.Processes.{no_values}
use Rattle.record.specs.Entries.{values_read}

-- before the first value
pub values_none : (s : List ℕ) → values_read s 0 ≡ Some no_values
unfolding values_read
values_none s = refl

-- one value more
pub values_more : (s values : List ℕ) (i v : ℕ) → values_read s i ≡ Some values → number_of (field_of s (3 + i)) ≡ Some v
    → values_read s (i + 1) ≡ Some (set values i v)
unfolding values_read
values_more s values i v before e = rw (add-one i, before, e)

-- a value that is not in form, however many follow
pub values_end : (s : List ℕ) (i count : ℕ) → i < count → number_of (field_of s (3 + i)) ≡ None → values_read s count ≡ None
unfolding values_read
values_end s i zero h e = absurd (not-suc-le-zero h)
values_end s i (suc count) h e =
    ⊎_elim
    (λ (q : i ≡ count). rw (← q, e) (by_option (values_read s i)))
    (λ (l : i < count). rw (values_end s i count l e))
    (eq-or-lt_of_le (le_of_suc-le-suc h))
  where
    by_option : (o : Option (List ℕ)) → ◌≡◌ {A = Option (List ℕ)} (with_field o (λ (values : List ℕ). None)) None
    by_option None = refl
    by_option (Some values) = refl

pub ruleset values_so_far = (values_none, values_more, values_end)
