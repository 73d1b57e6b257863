-- `print` meets its contract: what waits at the end of the run is written too. Assumes nothing.
use Rattle.simulator.proofs.Endings.{prints}
use Rattle.simulator.proofs.print.Goals as goal

pub returns : goal.returns
returns c = prints _ _ _ _ _ _ c.requires.line_long c.requires.room c.run-ended.ensures c.flush-written.ensures
