-- What was written is counted, over one flush and over several. Assumes nothing.
use Prim.Native.Nat.{ℕ, ◌+◌, ◌≤◌}
use native.Mathlib.Omega.{arith}
use mathlib.Core.Path.{◌≡◌, refl, sym, ap, ◌∙◌}
use mathlib.Core.Bool.{Bool, true, false, cond}
use Rattle.simulator.specs.declared.output.Output.{Output}
use Rattle.simulator.specs.Outputs.{Flushes, Counts}

-- a write cannot have failed and not have failed
pub not_both : {A : Type 0} {failed : Bool} → failed ≡ false → failed ≡ true → A
not_both whole broken =
    let zero_one : ◌≡◌ {A = ℕ} 0 1 = ap {B = ℕ} (λ (t : Bool). cond t 1 0) (sym whole ∙ broken) in
    absurd (omega (arith, zero_one))

pub counts_none : (o : Output) → Counts o 0 o
counts_none o = record { unfailed = λ e. e; counted = λ e. omega arith }

pub counts_both : (a b c : Output) (m n : ℕ) → Counts a m b → Counts b n c → Counts a (m + n) c
counts_both a b c m n first second =
    record {
      unfailed = λ e. first.unfailed (second.unfailed e);
      counted = λ e. omega (arith, second.counted e, first.counted (second.unfailed e));
    }

module _ (before after : Output) (flushes : Flushes before after) where
  pub flush_counts : Counts before before.len after
  flush_counts =
      record {
        unfailed = λ e. go before.failed refl e;
        counted = λ e. flushes.counted ∙ ap (λ (t : Bool). before.written + cond t 0 before.len) e;
      }
    where
      go : (failed : Bool) → before.failed ≡ failed → after.failed ≡ false → before.failed ≡ false
      go true q e = not_both e (flushes.stays q)
      go false q e = q

  pub flush_at_most : after.written ≤ before.written + before.len
  flush_at_most = go after.failed flushes.counted
    where
      go : (failed : Bool) → after.written ≡ before.written + cond failed 0 before.len → after.written ≤ before.written + before.len
      go true e = omega (arith, e)
      go false e = omega (arith, e)
