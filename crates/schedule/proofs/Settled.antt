-- Two outcomes that a contract allows are equal: the session, the place of the next byte, all that is lent, and the output's
-- writer as a caller sees it. Assumes nothing.
use Prim.Native.Nat.{ℕ, ◌≤◌}
use mathlib.Core.Path.{◌≡◌, ap}
use mathlib.Core.List.{List}
use native.Mathlib.Omega.{arith}
use lib.ListN.{length, drop, length-drop}
use Rattle.word.proofs.OneOutcome.{one_outcome, Settles}
use Rattle.writing.proofs.Settled.{Seen, seen}
use Rattle.schedule.specs.Feeding.{Feeding}
use Rattle.schedule.specs.declared.Session.{Session}
use Rattle.schedule.specs.declared.Fed.{Fed}
use Rattle.schedule.proofs.start.Kinds as start_kinds
use Rattle.schedule.proofs.start.Reads as start
use Rattle.schedule.proofs.feed.Kinds as feed_kinds
use Rattle.schedule.proofs.feed.Reads as feed
use Rattle.schedule.proofs.finish.Kinds as finish_kinds
use Rattle.schedule.proofs.finish.Reads as finish

pub start_settles : Settles start_kinds.ps start_kinds.r (Session × Seen)
    (λ κs r (out, _). (r, seen out.now)) start.Learnt
start_settles κs args r s e f one other =
    let written = one_outcome one.1.0 other.1.0 in
    λ i. (one_outcome one.0 other.0 i, ((written i).1, (written i).0, one_outcome one.1.1.name other.1.1.name i))

-- nothing of a session is lost where it is fed
abbrev session_in : Feeding → Session
session_in f = record { stage = f.run.stage; count = f.run.count; held = record { len = f.held.held; cr = f.held.cr } }

-- as many bytes are left only from one place
same_place : (chunk : List ℕ) (next other : ℕ) → next ≤ length chunk → other ≤ length chunk → drop next chunk ≡ drop other chunk → next ≡ other
same_place chunk next other within other_within left =
    let left_long : length (drop next chunk) ≡ length (drop other chunk) = ap (λ (l : List ℕ). length l) left in
    omega (arith, length-drop next chunk, length-drop other chunk)

pub feed_settles : Settles feed_kinds.ps feed_kinds.r (Fed × List ℕ × List ℕ × Seen)
    (λ κs r (_, (_, (_, (line, (mem, (out, _)))))). (r, line.now, mem.now, seen out.now)) feed.Learnt
feed_settles κs args r s e f one other =
    let fed = one_outcome one.fed other.fed in
    let next = same_place _ _ _ one.within other.within (ap (λ (x : Feeding × List ℕ). x.1) fed) in
    λ i. (
      record { session = session_in (fed i).0; next = next i },
      (fed i).0.held.line,
      (fed i).0.run.words,
      ((fed i).0.len, (fed i).0.out, one_outcome one.same.name other.same.name i),
    )

pub finish_settles : Settles finish_kinds.ps finish_kinds.r (Session × List ℕ × Seen)
    (λ κs r (_, (_, (mem, (out, _)))). (r, mem.now, seen out.now)) finish.Learnt
finish_settles κs args r s e f one other =
    let fed = one_outcome one.0 other.0 in
    λ i. (session_in (fed i), (fed i).run.words, ((fed i).len, (fed i).out, one_outcome one.1.name other.1.name i))
