-- Open sequences as bits of a mask: opening a variable's sequence opens that one and no other, and stays within the variables.
-- Assumes nothing.
use mathlib.Core.Path.{◌≡◌, refl, sym, ap, ◌∙◌, subst}
use mathlib.Core.Bool.{Bool, true, false, cond}
use Prim.Native.Nat.{ℕ, suc, ◌+◌, ◌-◌, ◌*◌, ◌/◌, ◌%◌, ◌^◌, ◌≤◌, ◌<◌}
use native.Mathlib.Nat.{add-mul-div_right, div-add-mod', mod-eq_of_lt, mod-lt, mul-le-mul_right, one-mul, pow-suc, suc-mul}
use native.Mathlib.Numerals.{add-one}
use native.Mathlib.Omega.{arith}
use borrow.Author.Tests.{leb-true, leb-false, eqb-true, eqb-false, eq-eqb}
use lib.Arith.{digits_lt, lt_of_le-ne}
use lib.Dec.{eqb, leb}
use lib.Pow.{pow_pos, pow-lt, pow-add, shr_lt, shr-shr}
use Rattle.rules.specs.Processes.{is_open, with_open}

-- what the code's shift gives
pub bit : (x : ℕ) → x < 16 → (1 * 2 ^ x) % 2 ^ 16 ≡ 2 ^ x
bit x h = ap (λ (n : ℕ). n % 2 ^ 16) (one-mul (2 ^ x)) ∙ mod-eq_of_lt (pow-lt h)

-- an open variable's bit can be taken off
pub open_le : (m x : ℕ) → is_open m x ≡ true → 2 ^ x ≤ m
open_le m x e =
    let one : m / 2 ^ x % 2 ≡ 1 = eqb-true (m / 2 ^ x % 2) 1 e in
    let pos : 1 ≤ m / 2 ^ x = omega arith in
    omega (arith, mul-le-mul_right (2 ^ x) pos, div-add-mod' m (2 ^ x), one-mul (2 ^ x))

-- a shut variable below t can be opened within t bits
put_on : (m x t : ℕ) → x < t → m < 2 ^ t → is_open m x ≡ false → m + 2 ^ x < 2 ^ t
put_on m x t h hm e =
    let ne : m / 2 ^ x % 2 ≡ 1 → ⊥ = eqb-false (m / 2 ^ x % 2) 1 e in
    let k : ℕ = t - suc x in
    let sum : suc k + x ≡ t = omega arith in
    let top : 2 ^ (suc k + x) ≡ 2 ^ t = ap (λ (n : ℕ). 2 ^ n) sum in
    let small : m / 2 ^ x < 2 ^ suc k = shr_lt (suc k) x (rw top hm) in
    let more : m / 2 ^ x + 1 < 2 ^ suc k = omega (arith, pow-suc 2 k) in
    let fits : (m / 2 ^ x + 1) * 2 ^ x + m % 2 ^ x < 2 ^ suc k * 2 ^ x = digits_lt more (mod-lt m (pow_pos x)) in
    omega (arith, fits, sym (pow-add 2 (suc k) x) ∙ top, div-add-mod' m (2 ^ x), next (m / 2 ^ x) (2 ^ x))
  where
    next : (a d : ℕ) → (a + 1) * d ≡ a * d + d
    next a d = rw (add-one, suc-mul)

pub open_in : (m x t : ℕ) → x < t → m < 2 ^ t → with_open m x < 2 ^ t
unfolding with_open
open_in m x t h hm = go (is_open m x) refl
  where
    go : (u : Bool) → is_open m x ≡ u → cond u m (m + 2 ^ x) < 2 ^ t
    go true e = hm
    go false e = put_on m x t h hm e

-- the digit of n at y
abbrev dig : ℕ → ℕ → ℕ
dig n y = n / 2 ^ y % 2

-- one more at x, where the digit was 0
up : (n x : ℕ) → (n + 2 ^ x) / 2 ^ x ≡ n / 2 ^ x + 1
up n x = ap (λ (k : ℕ). (n + k) / 2 ^ x) (sym (one-mul (2 ^ x))) ∙ add-mul-div_right n 1 (pow_pos x)

up_below : (n x y : ℕ) → y < x → dig (n + 2 ^ x) y ≡ dig n y
up_below n x y h =
    let k : ℕ = x - suc y in
    let e : 2 ^ x ≡ 2 ^ suc k * 2 ^ y = ap (λ (j : ℕ). 2 ^ j) (sum x y h) ∙ pow-add 2 (suc k) y in
    let d : (n + 2 ^ x) / 2 ^ y ≡ n / 2 ^ y + 2 ^ suc k = ap (λ (j : ℕ). (n + j) / 2 ^ y) e ∙ add-mul-div_right n (2 ^ suc k) (pow_pos y) in
    let two : 2 ^ suc k ≡ 2 ^ k * 2 = pow-suc 2 k in
    ap (λ (j : ℕ). j % 2) d ∙ omega (arith, two)
  where
    sum : (a c : ℕ) → c < a → a ≡ suc (a - suc c) + c
    sum a c l = omega arith

up_above : (n x y : ℕ) → x < y → dig n x ≡ 0 → dig (n + 2 ^ x) y ≡ dig n y
up_above n x y h z =
    ap (λ (j : ℕ). j % 2) (parts (n + 2 ^ x) ∙ ap (λ (j : ℕ). j / 2 ^ (y - suc x)) half ∙ sym (parts n))
  where
    add : y ≡ x + (1 + (y - suc x))
    add = omega arith

    parts : (m : ℕ) → m / 2 ^ y ≡ m / 2 ^ x / 2 / 2 ^ (y - suc x)
    parts m = ap (λ (j : ℕ). m / 2 ^ j) add ∙ sym (shr-shr m x (1 + (y - suc x))) ∙ sym (shr-shr (m / 2 ^ x) 1 (y - suc x))

    half : (n + 2 ^ x) / 2 ^ x / 2 ≡ n / 2 ^ x / 2
    half = ap (λ (j : ℕ). j / 2) (up n x) ∙ omega arith

same : (n x : ℕ) → dig n x ≡ 0 → dig (n + 2 ^ x) x ≡ 1
same n x z = ap (λ (j : ℕ). j % 2) (up n x) ∙ omega arith

zero_of : (n x : ℕ) → is_open n x ≡ false → dig n x ≡ 0
zero_of n x e = let ne : dig n x ≡ 1 → ⊥ = eqb-false (dig n x) 1 e in omega arith

-- what opening does, at every variable
pub opens : (n x y : ℕ) → is_open (with_open n x) y ≡ cond (eqb y x) true (is_open n y)
unfolding with_open
opens n x y = go (eqb y x) refl
  where
    apart : (t : Bool) → leb x y ≡ t → is_open n x ≡ false → (y ≡ x → ⊥) → is_open (n + 2 ^ x) y ≡ is_open n y
    apart true l e ne = ap (λ (j : ℕ). eqb j 1) (up_above n x y (lt_of_le-ne (leb-true x y l) (λ q. ne (sym q))) (zero_of n x e))
    apart false l e ne = ap (λ (j : ℕ). eqb j 1) (up_below n x y (leb-false x y l))

    other : (t : Bool) → is_open n x ≡ t → (y ≡ x → ⊥) → is_open (cond t n (n + 2 ^ x)) y ≡ is_open n y
    other true e ne = refl
    other false e ne = apart (leb x y) refl e ne

    self : (t : Bool) → is_open n x ≡ t → is_open (cond t n (n + 2 ^ x)) x ≡ true
    self true e = e
    self false e = eq-eqb _ _ (same n x (zero_of n x e))

    go : (u : Bool) → eqb y x ≡ u → is_open (cond (is_open n x) n (n + 2 ^ x)) y ≡ cond u true (is_open n y)
    go true q = subst (λ (j : ℕ). is_open (cond (is_open n x) n (n + 2 ^ x)) j ≡ true) (sym (eqb-true y x q)) (self (is_open n x) refl)
    go false q = other (is_open n x) refl (eqb-false y x q)
