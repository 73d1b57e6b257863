-- Two outcomes that a contract allows are equal: of `answer`, the process, all lent words, and the writer as a caller sees it; of
-- `slot`, the place. Assumes nothing.
use mathlib.Core.List.{List}
use Prim.Native.Nat.{ℕ}
use Rattle.word.proofs.OneOutcome.{one_outcome, Settles}
use Rattle.rules.specs.declared.Process.{Process}
use Rattle.writing.proofs.Settled.{Seen, seen, one_put}
use Rattle.answers.proofs.answer.Kinds as answer_kinds
use Rattle.answers.proofs.answer.Reads as answer
use Rattle.answers.proofs.moves.slot.Kinds as slot_kinds
use Rattle.answers.proofs.moves.slot.Reads as slot

pub answer_settles : Settles answer_kinds.ps answer_kinds.r (Process × List ℕ × Seen)
    (λ κs r (_, (_, (_, (_, (mem, (out, _)))))). (r, mem.now, seen out.now)) answer.Learnt
answer_settles κs args r s e f one other =
    λ i. (
      one_outcome one.process other.process i,
      one_outcome one.memory other.memory i,
      one_put one.row other.row i,
    )

pub slot_settles : Settles slot_kinds.ps slot_kinds.r ℕ (λ κs r e. r) slot.Learnt
slot_settles κs args r s e f one other = one_outcome one.0 other.0
