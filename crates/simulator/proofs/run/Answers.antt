-- `run` meets its contract: it begins where the whole-input theorem begins, all that is read is taken, and the input ends.
-- Assumes nothing.
use mathlib.Core.Path.{ap}
use Rattle.std.proofs.Common.{rules}
use Rattle.simulator.specs.declared.output.Output.{Output}
use Rattle.simulator.proofs.Beginnings.{begins, stands_first}
use Rattle.simulator.proofs.Endings.{runs}
use Rattle.simulator.proofs.run.Goals as goal

pub read_all-read-requires : goal.read_all-read-requires
read_all-read-requires c =
    let begun = c.start-session.ensures in (
      stands_first _ c.args.line.now c.args.mem.now c.args.out.now c.start-session.new.out _ (search rules) _ begun.session begun.written c.requires.room
          c.requires.words_clear c.begun-heading.ensures c.requires.line_long begun.same.long,
      c.requires.buffer_long,
    )

pub returns : goal.returns
returns c =
    let begun = c.start-session.ensures in
    runs _ _ _
    (begins _ c.args.line.now c.args.mem.now c.args.out.now c.start-session.new.out _ (search rules) _ begun.session begun.written c.requires.room
    c.requires.words_clear c.begun-heading.ensures)
    (ap (λ (o : Output). o.written) c.begun-heading.ensures)
    _ _ c.read_all-read.ensures _ _ c.end.ensures
