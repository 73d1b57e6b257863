-- The invariant of `gather`: gathering on from here gives what gathering all gives.
use Prim.Native.Nat.{◌≤◌, ◌+◌}
use mathlib.Core.Path.{◌≡◌}
use lib.ListN.{drop}
use Rattle.schedule.specs.Gathering.{line_length, held_in, gather_of}
use Rattle.schedule.proofs.gather.gather.Given as goal

abbrev pub invariant-loop-i : goal.invariant-loop-i
invariant-loop-i l = record {
  kept : l.held.len ≤ line_length;
  so_far : gather_of (held_in l.line l.held) (drop (l.at + l.i) l.chunk) ≡ gather_of (held_in l.initial.line l.initial.held) (drop l.at l.chunk);
}
