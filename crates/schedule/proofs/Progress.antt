-- Ends and bounds of feeding: gathering takes at least one byte; a chunk that is used up; a full output; a session that has
-- ended. Assumes nothing.
use Prim.Native.Nat.{ℕ, ◌-◌, ◌≤◌, ◌<◌}
use mathlib.Core.Path.{◌≡◌, refl, sym, ap, ◌∙◌, subst}
use mathlib.Core.Bool.{Bool, true, false, cond}
use mathlib.Core.List.{List, [], ◌∷◌}
use native.Mathlib.Omega.{arith}
use borrow.Author.Tests.{ltb-false}
use lib.Dec.{ltb}
use lib.ListN.{length, drop, length-drop, drop_of_length-le}
use Rattle.rules.specs.declared.Board.{Board}
use Rattle.writing.specs.declared.writer.Writer.{Writer}
use Rattle.printout.specs.Writing.{longest_row}
use Rattle.printout.specs.declared.Row.{Row}
use Rattle.schedule.specs.Telling.{EndsWithRow}
use Rattle.schedule.specs.Feeding.{Feeding, feeding_to, is_full, feed_of}
use Rattle.schedule.specs.Gathering.{Held, Gathered, line_length, held_in, put, closes, gather_of}
use Rattle.answers.specs.Order.{InOrder}
use Rattle.schedule.specs.Ready.{Ready}
use Rattle.schedule.specs.declared.Session.{Session}
use Rattle.schedule.specs.declared.gather.Kept.{Kept}
use Rattle.answers.specs.declared.Stage.{Stage}
use Rattle.answers.specs.declared.Stage.TheVariants.{Running}
use Rattle.schedule.proofs.RunningOn.{running, opened}

-- no more is left than there was, and less where a byte was there
left_most : (h : Held) (bytes : List ℕ) → length (gather_of h bytes).left ≤ length bytes
unfolding gather_of
left_most h [] = omega arith
left_most h (byte ∷ bytes) = go (closes h byte) (left_most (put h byte) bytes)
  where
    go : (t : Bool) → length (gather_of (put h byte) bytes).left ≤ length bytes
        → length (cond t (record { held = put h byte; left = bytes; closed = true }) (gather_of (put h byte) bytes)).left ≤ length (byte ∷ bytes)
    go true ih = omega arith
    go false ih = omega arith

shorter : (h : Held) (bytes : List ℕ) → 0 < length bytes → length (gather_of h bytes).left < length bytes
unfolding gather_of
shorter h [] l = absurd (omega arith)
shorter h (byte ∷ bytes) l = go (closes h byte) (left_most (put h byte) bytes)
  where
    go : (t : Bool) → length (gather_of (put h byte) bytes).left ≤ length bytes
        → length (cond t (record { held = put h byte; left = bytes; closed = true }) (gather_of (put h byte) bytes)).left < length (byte ∷ bytes)
    go true ih = omega arith
    go false ih = omega arith

pub progress : (h k : Held) (chunk : List ℕ) (at next : ℕ) (closed : Bool) → at < length chunk
    → record { held = k; left = drop next chunk; closed = closed } ≡ gather_of h (drop at chunk) → length chunk - next < length chunk - at
progress h k chunk at next closed l g =
    let here : length (drop at chunk) ≡ length chunk - at = length-drop at chunk in
    let there : length (drop next chunk) ≡ length chunk - next = length-drop next chunk in
    let same : length (drop next chunk) ≡ length (gather_of h (drop at chunk)).left = ap (λ (x : Gathered). length x.left) g in
    let less : length (gather_of h (drop at chunk)).left < length (drop at chunk) = shorter h (drop at chunk) (omega arith) in
    omega arith

-- a record that is not closed takes all bytes
open_left : (h : Held) (bytes : List ℕ) → (gather_of h bytes).closed ≡ false → (gather_of h bytes).left ≡ []
unfolding gather_of
open_left h [] e = refl
open_left h (byte ∷ bytes) e = go (closes h byte) (open_left (put h byte) bytes) e
  where
    go : (t : Bool) → ((gather_of (put h byte) bytes).closed ≡ false → (gather_of (put h byte) bytes).left ≡ [])
        → (cond t (record { held = put h byte; left = bytes; closed = true }) (gather_of (put h byte) bytes)).closed ≡ false
        → (cond t (record { held = put h byte; left = bytes; closed = true }) (gather_of (put h byte) bytes)).left ≡ []
    go true ih e = cc
    go false ih e = ih e

none_left : (f : Feeding) (left : List ℕ) → left ≡ [] → feed_of f left ≡ (f, left)
unfolding feed_of
none_left f left e = subst (λ (l : List ℕ). feed_of f l ≡ (f, l)) (sym e) refl

pub used_up : (f : Feeding) (chunk : List ℕ) (at : ℕ) → length chunk ≤ at → (f, drop at chunk) ≡ feed_of f (drop at chunk)
used_up f chunk at l = sym (none_left f (drop at chunk) (drop_of_length-le chunk l))

pub open_on : (board : Board) (count : ℕ) (held : Kept) (line words : List ℕ) (out : Writer) (bytes line_gathered : List ℕ) (now : Kept) (left : List ℕ) (closed : Bool)
    → longest_row ≤ length out.bytes.now - out.len
    → record { held = held_in line_gathered now; left = left; closed = closed } ≡ gather_of (held_in line held) bytes → closed ≡ false
    → feed_of (feeding_to (running board count now) line_gathered words out) left ≡ feed_of (feeding_to (running board count held) line words out) bytes
open_on board count held line words out bytes line_gathered now left closed room g e =
    let none : left ≡ [] =
    ap (λ (x : Gathered). x.left) g
    ∙ open_left (held_in line held) bytes (sym (ap (λ (x : Gathered). x.closed) g) ∙ e) in
    none_left _ left none ∙ opened board count held line words out bytes line_gathered now left closed room g e

-- the room for a row, by its test
pub is_full_lem : (f : Feeding) (t answer : Bool) → t ≡ ltb (length f.out - f.len) longest_row → t ≡ answer → is_full f ≡ answer
unfolding is_full
is_full_lem f t answer e q = sym e ∙ q

pub room : (free : ℕ) (t : Bool) → t ≡ ltb free longest_row → t ≡ false → longest_row ≤ free
room free t e q = ltb-false free longest_row (sym e ∙ q)

-- a session that runs
pub as_running : (board : Board) (session : Session) (line words : List ℕ) (out : Writer) (bytes : List ℕ) → session.stage ≡ Running board
    → feed_of (feeding_to (running board session.count session.held) line words out) bytes
    ≡ feed_of (feeding_to session line words out) bytes
as_running board session line words out bytes e =
    ap (λ (s : Stage). feed_of (feeding_to (record { stage = s; count = session.count; held = session.held }) line words out) bytes) (sym e)

pub running_ready : (board : Board) (count : ℕ) (held : Kept) (line words : List ℕ)
    → InOrder board words → held.len ≤ line_length → length line ≡ line_length → Ready (running board count held) line words
running_ready board count held line words o h l = record { order = o; held = h; long = l }

pub ended_ready : (row : Row) (session after : Session) (out out_after : Writer) (line words : List ℕ) → EndsWithRow row session out after out_after
    → length line ≡ line_length → Ready after line words
ended_ready row session after out out_after line words k l =
    subst (λ (s : Session). Ready s line words) (sym k.over) (record { order = tt; held = omega arith; long = l })
