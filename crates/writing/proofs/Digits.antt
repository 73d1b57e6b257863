-- The last digits of a number, each put in its place. Assumes nothing.
use mathlib.Core.Path.{◌≡◌, refl, ap, sym, ◌∙◌}
use mathlib.Core.List.{List, [], ◌∷◌, ◌++◌}
use Prim.Native.Nat.{ℕ, zero, suc, ◌+◌, ◌-◌, ◌<◌, ◌≤◌, ◌/◌, ◌%◌, ◌^◌}
use native.Mathlib.Omega.{arith}
use lib.ListN.{length, set, length-append}
use lib.Seq.{sets}
use Rattle.fields.specs.Decimal.{decimal}
use Rattle.fields.proofs.Decimals.{by_digits}
use Rattle.writing.proofs.Puts.{sets_more, sets_after}

-- the last k digits of n
abbrev pub last_digits : ℕ → ℕ → List ℕ
last_digits zero n = []
last_digits (suc k) n = last_digits k (n / 10) ++ ((48 + n % 10) ∷ [])

length_last : (k n : ℕ) → length (last_digits k n) ≡ k
length_last zero n = refl
length_last (suc k) n = omega (arith, length-append (last_digits k (n / 10)) ((48 + n % 10) ∷ []), length_last k (n / 10))

-- a number's digits are as many of its last digits as it has
abbrev pub AllLast : ℕ → List ℕ → Type 0
AllLast n digits = digits ≡ last_digits (length digits) n

one_last : (n : ℕ) → n ≤ 9 → AllLast n ((48 + n) ∷ [])
one_last n h = let m : n % 10 ≡ n = omega arith in ap (λ (d : ℕ). (48 + d) ∷ []) (sym m)

more_last : (n : ℕ) (a : List ℕ) → 9 < n → 0 < length a → AllLast (n / 10) a → AllLast n (a ++ ((48 + n % 10) ∷ []))
more_last n a g l e =
    let z : length (a ++ ((48 + n % 10) ∷ [])) ≡ suc (length a) = omega (arith, length-append a ((48 + n % 10) ∷ [])) in
    rw z (ap (λ (b : List ℕ). b ++ ((48 + n % 10) ∷ [])) e)

pub decimal_last : (n : ℕ) → n < 2 ^ 64 → AllLast n (decimal n)
decimal_last n h = (by_digits AllLast one_last more_last 20 n (omega arith) (omega arith)).0

-- before the first turn every digit is left to put
pub digits_left : (out : List ℕ) (at count n : ℕ) → n < 2 ^ 64 → count ≡ length (decimal n)
    → sets out at (last_digits (at + count - at) n) ≡ sets out at (decimal n)
digits_left out at count n h e =
    let k : at + count - at ≡ length (decimal n) = omega arith in
    rw k (ap (sets out at) (sym (decimal_last n h)))

-- the last digit is put in its place, and those before it are left to put
last_put : (out : List ℕ) (at k i n : ℕ) → i ≡ at + k
    → sets (set out i (48 + n % 10)) at (last_digits k (n / 10)) ≡ sets out at (last_digits (suc k) n)
last_put out at k i n e =
    let before = last_digits k (n / 10) in
    let l = length_last k (n / 10) in
    let s = sets_more out before ((48 + n % 10) ∷ []) at in
    rw e (sets_after before out at (at + k) (48 + n % 10) (omega arith) ∙ (rw l at s))

pub digit_put : (out : List ℕ) (at i n : ℕ) → at < i
    → sets (set out (i - 1) (48 + n % 10)) at (last_digits (i - 1 - at) (n / 10)) ≡ sets out at (last_digits (i - at) n)
digit_put out at i n p = let e : i - at ≡ suc (i - 1 - at) = omega arith in rw e (last_put out at (i - 1 - at) (i - 1) n (omega arith))
