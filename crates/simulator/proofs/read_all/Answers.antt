-- `read_all` meets its contract. Assumes nothing.
use mathlib.Core.Path.{ap}
use Rattle.simulator.specs.declared.input.Input.{Input}
use Rattle.simulator.proofs.Readings.{read_nothing, read_more, read_all, stopped_by_test}
use Rattle.simulator.proofs.read_all.Goals as goal

pub loop-rt-init : goal.loop-rt-init
loop-rt-init c = read_nothing _ _ (ap (λ (i : Input). i.total) c.unread.ensures) c.requires.0

pub returns-then-has_stopped : goal.returns-then-has_stopped
returns-then-has_stopped c =
    let r = c.turn-after.result in
    read_all _ _ _ (read_more _ _ _ _ _ _ c.loop-rt.invariant c.turn-after.ensures)
    (stopped_by_test r.input r.state.session.stage _ c.has_stopped.ensures c.if-has_stopped.true)

pub loop-rt-preserved : goal.loop-rt-preserved
loop-rt-preserved c = read_more _ _ _ _ _ _ c.loop-rt.invariant c.turn-after.ensures
