-- The invariant of `read_all`: as many bytes are taken as were read. Each turn that goes on reads a byte at least, so that
-- the measure is what can still be counted.
use Prim.Native.Nat.{◌-◌}
use Rattle.simulator.specs.Inputs.{most_read}
use Rattle.simulator.specs.Points.{point}
use Rattle.simulator.proofs.Readings.{ReadSome}
use Rattle.simulator.proofs.read_all.Given as goal

abbrev pub invariant-loop-rt : goal.invariant-loop-rt
invariant-loop-rt l =
    ReadSome
    (point l.initial.after.state.session l.initial.line l.initial.mem l.initial.out l.initial.after.state.held)
    (point l.after.state.session l.line l.mem l.out l.after.state.held)
    l.after.input

abbrev pub decreases-loop-rt : goal.decreases-loop-rt
decreases-loop-rt l = most_read - l.after.input.total
