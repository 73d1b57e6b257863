-- Laws of `specs/Number.antt` at a place of a list, for the loop that reads digits. Assumes nothing.
use Prim.Native.Nat.{ℕ, ◌+◌, ◌*◌, ◌-◌, ◌<◌, ◌≤◌, ◌^◌}
use mathlib.Core.Path.{◌≡◌, refl}
use mathlib.Core.Bool.{true}
use mathlib.Core.List.{List, [], ◌∷◌}
use native.Mathlib.Omega.{arith}
use native.Mathlib.Nat.{le_refl, le_trans}
use lib.Dec.{leb}
use lib.ListN.{length, drop, get_or, drop_of_length-le}
use borrow.Author.Tests.{leb-true, le-ltb, lt-ltb}
use Rattle.std.specs.Prelude.{Some, None}
use Rattle.std.proofs.lemmas.List.Recursion.{and_at}
use Rattle.fields.specs.Number.{is_digit, all_digits, value_from, value_case, number_in}
use Rattle.rules.proofs.Tests.{and_left}
use Rattle.fields.proofs.Splits.{drop_step}

-- a digit is not below `0`
pub digit_low : (s : List ℕ) (i : ℕ) → i < length s → all_digits s ≡ true → 48 ≤ get_or s i 0
unfolding all_digits
digit_low s i h e = leb-true 48 (get_or s i 0) (and_left (leb 48 (get_or s i 0)) (leb (get_or s i 0) 57) (and_at all_digits is_digit refl (λ _ _. refl) s i 0 h e))

pub value_step : (s : List ℕ) (i before : ℕ) → i < length s → value_from before (drop i s) ≡ value_from (before * 10 + (get_or s i 0 - 48)) (drop (i + 1) s)
unfolding value_from
value_step s i before h = rw drop_step

-- more digits make no number smaller
pub value_ge : (xs : List ℕ) (before : ℕ) → before ≤ value_from before xs
unfolding value_from
value_ge [] before = le_refl before
value_ge (x ∷ xs) before =
    let h : before ≤ before * 10 + (x - 48) = omega arith in le_trans h (value_ge xs (before * 10 + (x - 48)))

-- what passes 2^64 at a place is too great
pub too_great : (s : List ℕ) (i before : ℕ) → i < length s → value_from before (drop i s) ≡ value_from 0 s
    → 2 ^ 64 ≤ before * 10 + (get_or s i 0 - 48) → number_in (value_case (value_from 0 s)) ≡ None
too_great s i before h e g =
    let k : 2 ^ 64 ≤ value_from 0 s = omega (arith, value_step s i before h, value_ge (drop (i + 1) s) (before * 10 + (get_or s i 0 - 48))) in
    simp (le-ltb (value_from 0 s) (2 ^ 64) k)

pub value_done : (s : List ℕ) (i value : ℕ) → length s ≤ i → value < 2 ^ 64 → value_from value (drop i s) ≡ value_from 0 s
    → number_in (value_case (value_from 0 s)) ≡ Some value
unfolding value_from
value_done s i value h f e = rw (← e, drop_of_length-le s) (simp (lt-ltb value (2 ^ 64) f))

-- for each step of the loop
pub ruleset digits_read = (digit_low, value_step, too_great, value_done)
