-- When the test of two words over versions finds them the same. Assumes nothing.
use mathlib.Core.Path.{◌≡◌}
use mathlib.Core.Bool.{true, false}
use Prim.Native.Nat.{ℕ}
use native.Mathlib.Omega.{arith}
use lib.Dec.{eqb}
use borrow.Author.Tests.{eqb-true, eq-eqb}
use Rattle.rules.proofs.Tests.{and_left, and_right}
use Rattle.rules.proofs.Demand3.Machine.{Versioned, same}

pub same_true : (a b : Versioned) → same a b ≡ true → (a.version ≡ b.version) × (a.value ≡ b.value)
same_true a b e = (
  eqb-true a.version b.version (and_left (eqb a.version b.version) (eqb a.value b.value) e),
  eqb-true a.value b.value (and_right (eqb a.version b.version) (eqb a.value b.value) e),
)

pub same_false : (a b : Versioned) → same a b ≡ false → a.version ≡ b.version → a.value ≡ b.value → ⊥
same_false a b e p q =
    let x : eqb a.version b.version ≡ true = eq-eqb a.version b.version p in
    let y : eqb a.value b.value ≡ true = eq-eqb a.value b.value q in
    let z : ◌≡◌ {A = ℕ} 0 1 = cc in omega arith
