-- Blank fields in the words of the library's iterators. Assumes nothing.
use Prim.Native.Nat.{ℕ, zero, suc}
use mathlib.Core.Path.{◌≡◌, refl}
use mathlib.Core.List.{List}
use native.Mathlib.Numerals.{add-one}
use lib.Dec.{eqb}
use lib.ListN.{length}
use Rattle.std.specs.List.{list_all, range_with_len}
use Rattle.fields.specs.Fields.{field_of}
use Rattle.fields.specs.Blanks.{blanks}

pub blanks_all : (s : List ℕ) (k count : ℕ) → blanks s k count ≡ list_all (λ j. eqb (length (field_of s j)) 0) (range_with_len k count)
unfolding blanks
blanks_all s k zero = refl
blanks_all s k (suc count) = rw (blanks_all s (suc k) count, add-one) refl
