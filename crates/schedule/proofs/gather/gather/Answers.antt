-- `gather` meets its contract: what is gathered at the closing byte. Assumes nothing.
use native.Mathlib.Omega.{arith}
use mathlib.Core.Path.{◌∙◌}
use Rattle.schedule.proofs.Gathering.{within, gather_closed}
use Rattle.schedule.proofs.gather.gather.Goals as goal

pub returns-then-closed : goal.returns-then-closed
returns-then-closed c =
    let k = c.keep_byte-held.ensures in
    record {
      gathered = gather_closed _ _ _ _ c.loop-i-test.true _ c.is_closing-closed.ensures _ k.0 c.if-closed.true ∙ c.loop-i.invariant.so_far;
      kept = omega arith;
      within = within _ _ _ c.loop-i-test.true;
      long = omega arith;
    }
