-- The invariant of `feed_running`: what is left to feed gives what all gives, and the board is in order. The measure is what
-- is left of the chunk.
use mathlib.Core.Path.{◌≡◌}
use Prim.Native.Nat.{◌-◌, ◌≤◌}
use lib.ListN.{length, drop}
use Rattle.writing.specs.Put.{SameLent}
use Rattle.schedule.specs.Feeding.{feeding_to, feed_of}
use Rattle.schedule.specs.Gathering.{line_length}
use Rattle.answers.specs.Order.{InOrder}
use Rattle.schedule.proofs.RunningOn.{running}
use Rattle.schedule.proofs.chunks.feed_running.Given as goal

abbrev pub invariant-loop-next : goal.invariant-loop-next
invariant-loop-next l =
    (l.next ≤ length l.chunk)
    × InOrder l.board l.mem
    × (l.board.settings ≡ l.s)
    × (l.held.len ≤ line_length)
    × (length l.line ≡ line_length)
    × (length l.line ≡ length l.initial.line)
    × (length l.mem ≡ length l.initial.mem)
    × SameLent l.initial.out l.out
    × (feed_of (feeding_to (running l.board l.count l.held) l.line l.mem l.out) (drop l.next l.chunk)
    ≡ feed_of
    (feeding_to (running l.initial.board l.initial.count l.initial.held) l.initial.line l.initial.mem l.initial.out)
    (drop l.at l.chunk))

abbrev pub decreases-loop-next : goal.decreases-loop-next
decreases-loop-next l = length l.chunk - l.next
