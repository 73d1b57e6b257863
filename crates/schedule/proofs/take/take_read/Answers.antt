-- `take_read` meets its contract: one process is taken out of the board and put back. Assumes nothing.
use Rattle.schedule.proofs.RunningOn.{served}
use Rattle.schedule.proofs.Tellings.{read_tells}
use Rattle.schedule.proofs.take.take_read.Goals as goal

pub answer-requires : goal.answer-requires
answer-requires c =
    let k = served c.args.board c.args.mem.now c.requires.0 c.slot-me.result c.slot-me.ensures.1 in
    (k.sizes, k.room, k.process, k.clean, c.requires.2)

pub returns : goal.returns
returns c =
    let a = c.args in
    rw c.running.ensures
    (read_tells a.board a.session a.mem.now c.requires.0 a.read a.out.now _ _ _ _
    c.slot-me.ensures.0 c.answer.ensures)
