-- A bit of the mask set by `|`, or cleared by `& !`, is the rules' sequence opened or closed. Assumes nothing.
use mathlib.Core.Path.{◌≡◌, refl, ap, ◌∙◌}
use mathlib.Core.Bool.{Bool, true, false, cond}
use Prim.Native.Nat.{ℕ, ◌+◌, ◌-◌, ◌*◌, ◌/◌, ◌%◌, ◌^◌, ◌<◌}
use native.Mathlib.Omega.{arith}
use borrow.Author.Tests.{eqb-true, eqb-false}
use lib.Bits.{bit_and}
use lib.Pow.{pow-lt}
use Rattle.std.specs.Int.Bits.{bit_or, or_add_and}
use Rattle.std.proofs.lemmas.Nat.{and-not, and_comm}
use Rattle.std.proofs.lemmas.Nat.Bits.{and_pow}
use Rattle.rules.proofs.Sequences.Masks.{bit}
use Rattle.rules.specs.Processes.{is_open, with_open, with_closed}

-- the bit alone
open_bit : (mask x : ℕ) → is_open mask x ≡ true → bit_and mask (2 ^ x) ≡ 2 ^ x
open_bit mask x e =
    let one : mask / 2 ^ x % 2 ≡ 1 = eqb-true (mask / 2 ^ x % 2) 1 e in
    and_pow mask x ∙ ap (λ (n : ℕ). n * 2 ^ x) one ∙ omega arith

shut_bit : (mask x : ℕ) → is_open mask x ≡ false → bit_and mask (2 ^ x) ≡ 0
shut_bit mask x e =
    let other : mask / 2 ^ x % 2 ≡ 1 → ⊥ = eqb-false (mask / 2 ^ x % 2) 1 e in
    let none : mask / 2 ^ x % 2 ≡ 0 = omega arith in
    and_pow mask x ∙ ap (λ (n : ℕ). n * 2 ^ x) none ∙ omega arith

-- `mask | 1 << x`
pub bit_set : (mask x : ℕ) → x < 16 → bit_or mask (1 * 2 ^ x % 65536) ≡ with_open mask x
unfolding with_open
bit_set mask x small = rw (bit x small) (by (is_open mask x) refl)
  where
    by : (u : Bool) → is_open mask x ≡ u → bit_or mask (2 ^ x) ≡ cond u mask (mask + 2 ^ x)
    by true e = omega (arith, or_add_and mask (2 ^ x), open_bit mask x e)
    by false e = omega (arith, or_add_and mask (2 ^ x), shut_bit mask x e)

-- `mask & !(1 << x)`
pub bit_cleared : (mask x : ℕ) → x < 16 → mask < 65536 → bit_and mask (65535 - 1 * 2 ^ x % 65536) ≡ with_closed mask x
unfolding with_closed
bit_cleared mask x small fits = rw (bit x small) (by (is_open mask x) refl)
  where
    rest : bit_and mask (65535 - 2 ^ x) + bit_and mask (2 ^ x) ≡ mask
    rest =
        rw (and_comm mask (65535 - 2 ^ x), and_comm mask (2 ^ x)) (and-not 16 (2 ^ x) mask (pow-lt small) fits)

    by : (u : Bool) → is_open mask x ≡ u → bit_and mask (65535 - 2 ^ x) ≡ cond u (mask - 2 ^ x) mask
    by true e = omega (arith, rest, open_bit mask x e)
    by false e = omega (arith, rest, shut_bit mask x e)
