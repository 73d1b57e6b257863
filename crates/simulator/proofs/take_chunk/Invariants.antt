-- The invariant of `take_chunk`: the bytes before `at` are taken. Each turn makes room and takes a byte at least, so that
-- the measure is what is left of the chunk.
use Prim.Native.Nat.{◌-◌, ◌≤◌}
use lib.ListN.{length, take}
use Rattle.simulator.specs.Points.{point, TakesChunk}
use Rattle.simulator.proofs.take_chunk.Given as goal

abbrev pub invariant-loop-at : goal.invariant-loop-at
invariant-loop-at l =
    (l.at ≤ length l.chunk)
    × TakesChunk
    (point l.initial.state.session l.initial.line l.initial.mem l.initial.out l.initial.state.held)
    (take l.at l.chunk)
    (point l.state.session l.line l.mem l.out l.state.held)

abbrev pub decreases-loop-at : goal.decreases-loop-at
decreases-loop-at l = length l.chunk - l.at
