-- Laws of decimal digits: their count, how those of a number follow from those of its tenth, and what
-- holds of every number for that reason. Assumes nothing.
use Prim.Native.Nat.{ℕ, zero, suc, ◌+◌, ◌-◌, ◌*◌, ◌<◌, ◌≤◌, ◌/◌, ◌%◌, ◌^◌}
use mathlib.Core.Path.{◌≡◌, refl}
use mathlib.Core.Bool.{Bool, true, false, cond}
use mathlib.Core.List.{List, [], ◌∷◌}
use native.Mathlib.Omega.{arith}
use native.Mathlib.Nat.{pow-suc}
use lib.Dec.{ltb}
use lib.ListN.{length, length-append}
use borrow.Author.Tests.{le-ltb, lt-ltb, ltb-true, ltb-false}
use Rattle.fields.specs.Decimal.{decimal_in, followed_by}

-- a digit is one more, at whichever end it stands
longer : (digits : List ℕ) (d : ℕ) → length (followed_by digits d) ≡ suc (length digits)
longer digits d = omega (arith, length-append digits ((48 + d) ∷ []), length-append ((48 + d) ∷ []) digits)

pub short : (room n : ℕ) → length (decimal_in room n) ≤ room
unfolding decimal_in
short zero n = omega arith
short (suc room) n = by_test (ltb n 10) (short room (n / 10))
  where
    by_test : (b : Bool) → length (decimal_in room (n / 10)) ≤ room
        → length (cond b (followed_by [] n) (followed_by (decimal_in room (n / 10)) (n % 10))) ≤ suc room
    by_test true h = omega arith
    by_test false h = omega (arith, longer (decimal_in room (n / 10)) (n % 10))

pub some_digit : (room n : ℕ) → 0 < length (decimal_in (suc room) n)
unfolding decimal_in
some_digit room n = by_test (ltb n 10)
  where
    by_test : (b : Bool) → 0 < length (cond b (followed_by [] n) (followed_by (decimal_in room (n / 10)) (n % 10)))
    by_test true = omega arith
    by_test false = omega (arith, longer (decimal_in room (n / 10)) (n % 10))

-- a number of two digits or more
pub decimal_long : (room n : ℕ) → 0 < room → 9 < n → decimal_in room n ≡ followed_by (decimal_in (room - 1) (n / 10)) (n % 10)
unfolding decimal_in
decimal_long zero n p h = absurd (let y : ⊥ = omega arith in y)
decimal_long (suc room) n p h = let e : suc room - 1 ≡ room = omega arith in rw e (simp (le-ltb n 10 h))

-- a number of one digit
pub decimal_short : (room n : ℕ) → 0 < room → n ≤ 9 → decimal_in room n ≡ (48 + n) ∷ []
unfolding decimal_in
decimal_short zero n p h = absurd (let y : ⊥ = omega arith in y)
decimal_short (suc room) n p h = let k : n < 10 = omega arith in simp (lt-ltb n 10 k)

-- a tenth has room in one digit fewer
pub tenth : (room n : ℕ) → n < 10 ^ room → 9 < n → (1 < room) × (n / 10 < 10 ^ (room - 1))
tenth zero n h g = absurd (let y : ⊥ = omega arith in y)
tenth (suc zero) n h g = absurd (let y : ⊥ = omega arith in y)
tenth (suc (suc room)) n h g =
    let e : suc (suc room) - 1 ≡ suc room = omega arith in
    let k : n < 10 ^ suc room * 10 = rw pow-suc at h in
    (omega arith, rw e (omega arith))

-- what holds of one digit, and of a number where it holds of its tenth, holds of every number that has room
pub by_digits : (P : ℕ → List ℕ → Type 0) → ((n : ℕ) → n ≤ 9 → P n ((48 + n) ∷ []))
    → ((n : ℕ) (a : List ℕ) → 9 < n → 0 < length a → P (n / 10) a → P n (followed_by a (n % 10)))
    → (room n : ℕ) → 0 < room → n < 10 ^ room → P n (decimal_in room n) × (0 < length (decimal_in room n))
by_digits P one more zero n p h = absurd (let y : ⊥ = omega arith in y)
by_digits P one more (suc room) n p h =
    by_test (ltb n 10) refl (λ g.
    let t = tenth (suc room) n h g in
    let e : suc room - 1 ≡ room = omega arith in
    by_digits P one more room (n / 10) (omega arith) (rw e at t.1))
  where
    by_test : (b : Bool) → ltb n 10 ≡ b
        → (9 < n → P (n / 10) (decimal_in room (n / 10)) × (0 < length (decimal_in room (n / 10))))
        → P n (decimal_in (suc room) n) × (0 < length (decimal_in (suc room) n))
    by_test true e k =
        let l : n ≤ 9 = omega (arith, ltb-true n 10 e) in
        rw (decimal_short (suc room) n p l) (one n l, omega arith)
    by_test false e k =
        let g : 9 < n = omega (arith, ltb-false n 10 e) in
        let r = k g in
        let q : suc room - 1 ≡ room = omega arith in
        rw (decimal_long (suc room) n p g, q) (more n (decimal_in room (n / 10)) g r.1 r.0, omega (arith, longer (decimal_in room (n / 10)) (n % 10)))
