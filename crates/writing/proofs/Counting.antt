-- How many digits a number has, told by the greatest power of ten that it reaches. Assumes nothing.
use mathlib.Core.Path.{◌≡◌, ap, ◌∙◌}
use Prim.Native.Nat.{ℕ, zero, suc, ◌+◌, ◌-◌, ◌*◌, ◌<◌, ◌≤◌, ◌/◌, ◌^◌}
use native.Mathlib.Nat.{pow-suc}
use native.Mathlib.Omega.{arith}
use lib.ListN.{length, length-append}
use Rattle.std.proofs.Common.{Option, Some, None}
use Rattle.std.specs.Option.{IfNone, IfSome, unwrap_or}
use Rattle.fields.specs.Decimal.{decimal, decimal_in}
use Rattle.fields.proofs.Decimals.{decimal_long, decimal_short}

-- a number of two digits or more has one more than its tenth
longer : (room n : ℕ) → 0 < room → 9 < n → length (decimal_in room n) ≡ length (decimal_in (room - 1) (n / 10)) + 1
longer room n p g = ap length (decimal_long room n p g) ∙ length-append (decimal_in (room - 1) (n / 10)) _

by_power : (room n k : ℕ) → k < room → 10 ^ k ≤ n → n < 10 * 10 ^ k → length (decimal_in room n) ≡ k + 1
by_power room n zero r l h = ap length (decimal_short room n (omega arith) (omega arith))
by_power room n (suc k) r l h =
    let low : 10 ^ k * 10 ≤ n = rw pow-suc at l in
    let high : n < 10 * (10 ^ k * 10) = rw pow-suc at h in
    omega (arith, longer room n (omega arith) (omega arith), by_power (room - 1) (n / 10) k (omega arith) (omega arith) (omega arith))

-- the exponent is told where the number is not 0
pub counted : (n : ℕ) (power : Option ℕ) → IfNone power (n ≡ 0) → IfSome power (λ k. 10 ^ k ≤ n) → IfSome power (λ k. n < 10 * 10 ^ k)
    → IfSome power (λ k. k < 20) → unwrap_or power 0 + 1 ≡ length (decimal n)
counted n None z l h b = omega (arith, ap length (decimal_short 20 n (omega arith) (omega arith)))
counted n (Some k) z l h b = omega (arith, by_power 20 n k b l h)
