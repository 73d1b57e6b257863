-- Closing a variable's sequence shuts that one and no other, and stays within the variables: an open one is as if opened
-- just now, so each fact comes from that of opening. And both, of a process. Assumes nothing.
use mathlib.Core.Path.{◌≡◌, refl, sym, ap, ◌∙◌}
use mathlib.Core.Bool.{Bool, true, false, cond}
use Prim.Native.Nat.{ℕ, ◌+◌, ◌-◌, ◌/◌, ◌%◌, ◌^◌, ◌≤◌, ◌<◌}
use native.Mathlib.Nat.{add-mul-div_right, one-mul, sub-add_cancel}
use native.Mathlib.Omega.{arith}
use borrow.Author.Tests.{eqb-true, eq-eqb, ne_eqb}
use lib.Dec.{eqb}
use lib.Pow.{pow_pos}
use Rattle.rules.specs.Processes.{is_open, with_open, with_closed, opening, closing}
use Rattle.rules.specs.Types.{Process}
use Rattle.rules.proofs.Sequences.Masks.{open_le, opens}

module _ (n x : ℕ) (e : is_open n x ≡ true) where
  -- the bit put back gives the mask
  whole : n - 2 ^ x + 2 ^ x ≡ n
  whole = sub-add_cancel {n = n} (open_le n x e)

  quotient : n / 2 ^ x ≡ (n - 2 ^ x) / 2 ^ x + 1
  quotient =
      ap (λ (k : ℕ). k / 2 ^ x) (sym whole ∙ ap (λ (k : ℕ). n - 2 ^ x + k) (sym (one-mul (2 ^ x))))
      ∙ add-mul-div_right (n - 2 ^ x) 1 (pow_pos x)

  shut : is_open (n - 2 ^ x) x ≡ false
  shut =
      let one : n / 2 ^ x % 2 ≡ 1 = eqb-true (n / 2 ^ x % 2) 1 e in
      let even : (n - 2 ^ x) / 2 ^ x % 2 ≡ 1 → ⊥ = omega (arith, quotient) in
      ne_eqb _ _ even

  reopened : with_open (n - 2 ^ x) x ≡ n
  unfolding with_open
  reopened = ap (λ (t : Bool). cond t (n - 2 ^ x) (n - 2 ^ x + 2 ^ x)) shut ∙ whole

-- what closing does, at every variable
pub closes : (n x y : ℕ) → is_open (with_closed n x) y ≡ cond (eqb y x) false (is_open n y)
unfolding with_closed
closes n x y = go (is_open n x) refl (eqb y x) refl
  where
    go : (t : Bool) → is_open n x ≡ t → (u : Bool) → eqb y x ≡ u → is_open (cond t (n - 2 ^ x) n) y ≡ cond u false (is_open n y)
    go true e true q = ap (is_open (n - 2 ^ x)) (eqb-true y x q) ∙ shut n x e
    go true e false q =
        sym (opens (n - 2 ^ x) x y ∙ ap (λ (t : Bool). cond t true (is_open (n - 2 ^ x) y)) q)
        ∙ ap (λ (k : ℕ). is_open k y) (reopened n x e)
    go false e true q = ap (is_open n) (eqb-true y x q) ∙ e
    go false e false q = refl

closed_le : (n x : ℕ) → with_closed n x ≤ n
unfolding with_closed
closed_le n x = go (is_open n x)
  where
    go : (t : Bool) → cond t (n - 2 ^ x) n ≤ n
    go true = omega arith
    go false = omega arith

pub close_in : (n x t : ℕ) → n < 2 ^ t → with_closed n x < 2 ^ t
close_in n x t h = omega (arith, closed_le n x)

-- opening an open sequence, or closing a shut one, changes nothing
pub open_open : (n x : ℕ) → is_open n x ≡ true → with_open n x ≡ n
unfolding with_open
open_open n x e = ap (λ (t : Bool). cond t n (n + 2 ^ x)) e

pub close_shut : (n x : ℕ) → is_open n x ≡ false → with_closed n x ≡ n
unfolding with_closed
close_shut n x e = ap (λ (t : Bool). cond t (n - 2 ^ x) n) e

-- opening or closing one variable's sequence opens or closes that one, and changes no other's
module _ (x : ℕ) (p : Process) where
  pub opening_opens : is_open (opening x p).opened x ≡ true
  opening_opens = opens p.opened x x ∙ ap (λ (t : Bool). cond t true (is_open p.opened x)) (eq-eqb x x refl)

  pub closing_closes : is_open (closing x p).opened x ≡ false
  closing_closes = closes p.opened x x ∙ ap (λ (t : Bool). cond t false (is_open p.opened x)) (eq-eqb x x refl)

  pub opening_no_other : (y : ℕ) → (y ≡ x → ⊥) → is_open (opening x p).opened y ≡ is_open p.opened y
  opening_no_other y ne = opens p.opened x y ∙ ap (λ (t : Bool). cond t true (is_open p.opened y)) (ne_eqb y x ne)

  pub closing_no_other : (y : ℕ) → (y ≡ x → ⊥) → is_open (closing x p).opened y ≡ is_open p.opened y
  closing_no_other y ne = closes p.opened x y ∙ ap (λ (t : Bool). cond t false (is_open p.opened y)) (ne_eqb y x ne)
