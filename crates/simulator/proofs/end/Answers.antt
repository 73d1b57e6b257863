-- `end` meets its contract: with room made, the last record's row is put into the output. Assumes nothing.
use native.Mathlib.Omega.{arith}
use Rattle.schedule.specs.Feeding.{feeding}
use Rattle.schedule.proofs.Callers.{finished_grown}
use Rattle.simulator.proofs.Points.{can_flush, room_free}
use Rattle.simulator.proofs.end.Goals as goal

pub make_room-room-requires : goal.make_room-room-requires
make_room-room-requires c = can_flush _ c.requires

pub grown-requires : goal.grown-requires
grown-requires c =
    let a = c.args in
    let roomy = feeding a.state.session a.line.now a.mem.now a.out.now c.waiting.result in
    let free = room_free _ c.requires _ c.make_room-room.ensures in
    omega (arith, (finished_grown roomy _ c.finish.ensures.fed (omega (arith, free, c.waiting.ensures))).1, c.waiting.ensures)
