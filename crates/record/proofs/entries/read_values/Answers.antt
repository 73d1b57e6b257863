-- `read_values` meets its contract. Assumes nothing.
use Rattle.std.proofs.Common.{arith}
use Rattle.std.proofs.lemmas.Grind.{common_steps}
use Rattle.record.proofs.Values.{values_more}
use Rattle.record.proofs.entries.read_values.Goals as goal

pub loop-i-preserved : goal.loop-i-preserved
loop-i-preserved c = (grind (arith, common_steps), grind (arith, values_more))
