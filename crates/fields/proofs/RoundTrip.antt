-- Reading the decimal digits of a number below 2^64 gives the number back. Assumes nothing.
use Prim.Native.Nat.{ℕ, ◌+◌, ◌-◌, ◌*◌, ◌<◌, ◌≤◌, ◌/◌, ◌%◌, ◌^◌}
use mathlib.Core.Path.{◌≡◌, refl, sym, ◌∙◌}
use mathlib.Core.Bool.{Bool, true, false, ◌&&◌}
use mathlib.Core.List.{List, [], ◌∷◌}
use native.Mathlib.Omega.{arith}
use lib.Dec.{eqb, leb}
use lib.ListN.{length, get_or, get_or-append}
use borrow.Author.Tests.{lt-ltb, ne_eqb, le-leb, leb-true}
use Rattle.fields.specs.Number.{value_from, all_digits, is_digit, zero_leads, number_case, number_of}
use Rattle.fields.specs.Decimal.{decimal, followed_by}
use Rattle.std.specs.Prelude.{Some}
use Rattle.rules.proofs.Tests.{and_both}
use Rattle.fields.proofs.Decimals.{by_digits}

-- digits with one more after them spell ten times as much, and that digit
value_followed : (a : List ℕ) (d before : ℕ) → value_from before (followed_by a d) ≡ value_from before a * 10 + d
unfolding value_from
value_followed [] d before = omega arith
value_followed (x ∷ a) d before = value_followed a d (before * 10 + (x - 48))

digit_is : (d : ℕ) → d ≤ 9 → is_digit (48 + d) ≡ true
digit_is d h = and_both (leb 48 (48 + d)) (leb (48 + d) 57) (le-leb 48 (48 + d) (omega arith)) (le-leb (48 + d) 57 (omega arith))

digits_followed : (a : List ℕ) (d : ℕ) → all_digits a ≡ true → d ≤ 9 → all_digits (followed_by a d) ≡ true
unfolding all_digits
digits_followed [] d p h = and_both (is_digit (48 + d)) true (digit_is d h) refl
digits_followed (x ∷ a) d p h = more (is_digit x) p (λ r. digits_followed a d r h)
  where
    more : (b : Bool) → b && all_digits a ≡ true → (all_digits a ≡ true → all_digits (followed_by a d) ≡ true) → b && all_digits (followed_by a d) ≡ true
    more true e k = k e
    more false e k = e

-- a number's digits: they are digits, they spell it, the first is no zero but for 0, and only 0 .. 9 have one digit
abbrev Spelt : ℕ → List ℕ → Type 0
Spelt n a = (all_digits a ≡ true) × (value_from 0 a ≡ n) × (0 < n → get_or a 0 0 ≡ 48 → ⊥) × (1 < length a → 0 < n)

one_spelt : (n : ℕ) → n ≤ 9 → Spelt n ((48 + n) ∷ [])
unfolding all_digits value_from
one_spelt n h = (and_both (is_digit (48 + n)) true (digit_is n h) refl, omega arith, (λ p e. omega arith), λ e. omega arith)

more_spelt : (n : ℕ) (a : List ℕ) → 9 < n → 0 < length a → Spelt (n / 10) a → Spelt n (followed_by a (n % 10))
more_spelt n a g l s = (
  digits_followed a (n % 10) s.0 (omega arith),
  omega (arith, value_followed a (n % 10) 0, s.1),
  (λ p e. s.2 (omega arith) (sym (get_or-append a ((48 + n % 10) ∷ []) 0 0 l) ∙ e)),
  λ e. omega arith,
)

no_zero_leads : (n : ℕ) (a : List ℕ) → Spelt n a → zero_leads a ≡ false
unfolding zero_leads
no_zero_leads n a s = by_test (leb 2 (length a)) refl
  where
    by_test : (b : Bool) → leb 2 (length a) ≡ b → b && eqb (get_or a 0 0) 48 ≡ false
    by_test true e = ne_eqb (get_or a 0 0) 48 (s.2 (s.3 (leb-true 2 (length a) e)))
    by_test false e = refl

pub round_trip : (n : ℕ) → n < 2 ^ 64 → number_of (decimal n) ≡ Some n
unfolding number_of number_case
round_trip n h =
    let r = by_digits Spelt one_spelt more_spelt 20 n (omega arith) (omega arith) in
    let some : (length (decimal n) ≡ 0 → ⊥) = λ e. omega (arith, r.1) in
    simp (ne_eqb _ _ some, no_zero_leads n (decimal n) r.0, r.0.0, r.0.1, lt-ltb n (2 ^ 64) h)
