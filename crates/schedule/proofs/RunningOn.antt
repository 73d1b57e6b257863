-- A running session takes one record of a chunk: it is answered, and feeding goes on; or it is one too many, and the run
-- ends. Assumes nothing.
use Prim.Native.Nat.{ℕ, ◌+◌, ◌-◌, ◌≤◌, ◌<◌}
use mathlib.Core.Path.{◌≡◌, refl, sym, ap, ◌∙◌, subst}
use mathlib.Core.Bool.{Bool, true, false}
use mathlib.Core.List.{List}
use lib.ListN.{length, take}
use Rattle.word.specs.declared.Refusal.TheVariants.{TooManyRecords}
use Rattle.rules.specs.Bounds.{Sized}
use Rattle.rules.specs.Processes.{process_at, put_process}
use Rattle.rules.specs.Sizes.{words_used}
use Rattle.rules.specs.declared.Board.{Board}
use Rattle.rules.specs.declared.Process.{Process}
use Rattle.rules.specs.declared.Settings.{Settings}
use Rattle.rules.proofs.GoodForm.Keeps.{sound_process, clean_words}
use Rattle.rules.specs.InForm.{Sound, Clean}
use Rattle.record.specs.Entries.{schedule_of}
use Rattle.record.specs.declared.entries.Entry.{Entry}
use Rattle.std.specs.Prelude.{Result}
use Rattle.word.specs.declared.Refusal.{Refusal}
use Rattle.writing.specs.declared.writer.Writer.{Writer}
use Rattle.printout.specs.Writing.{longest_row}
use Rattle.answers.specs.Answering.{Answers}
use Rattle.schedule.specs.Telling.{Tells, over_of, EndsWithRow}
use Rattle.schedule.specs.Feeding.{run_of, feeding_to, feed_of}
use Rattle.schedule.specs.Gathering.{held_in, nothing, gather_of}
use Rattle.answers.specs.Moves.{slot_of}
use Rattle.answers.specs.Order.{InOrder}
use Rattle.answers.specs.Run.{nobodys_row, most_records, record_told}
use Rattle.schedule.specs.Feeds.{Feeds}
use Rattle.schedule.specs.declared.Fed.{Fed}
use Rattle.schedule.specs.declared.Session.{Session}
use Rattle.schedule.specs.declared.gather.Kept.{Kept}
use Rattle.answers.specs.declared.Stage.TheVariants.{Running, Over}
use Rattle.schedule.proofs.Feeding.{running_reads}
use Rattle.schedule.proofs.FedOn.{fed_open, fed_left, fed_on, stage_is}
use Rattle.answers.proofs.OneProcess.{all_sized}
use Rattle.schedule.proofs.Tellings.{read_tells, within_records, past_records, in_stage, record_order, session_order}

-- a running session
abbrev pub running : Board → ℕ → Kept → Session
running board count held = record { stage = Running board; count = count; held = held }

-- a running session after some bytes
abbrev pub fed_running : Board → ℕ → Kept → ℕ → Fed
fed_running board count held next = record { session = running board count held; next = next }

-- what feeding leaves, of what it returns
pub feeds_as : (r right : Fed) {session : Session} {chunk line words line_after words_after : List ℕ} {out out_after : Writer} {at : ℕ} → r ≡ right
    → Feeds session chunk at line words out right line_after words_after out_after
    → Feeds session chunk at line words out r line_after words_after out_after
feeds_as r right {session} {chunk} {line} {words} {line_after} {words_after} {out} {out_after} {at} e k =
    subst (λ (x : Fed). Feeds session chunk at line words out x line_after words_after out_after) (sym e) k

-- what answering on one process asks, from the order of the board
pub record Served (s : Settings) (p : Process) (words : List ℕ) : Type 0 where
  pub sizes : Sized s
  pub room : words_used s ≤ length words
  pub process : Sound s p
  pub clean : Clean s words

pub served : (board : Board) (words : List ℕ) → InOrder board words → (me : ℕ) → me < board.settings.n
    → Served board.settings (process_at board me) words
served board words o me mine =
    let z = all_sized board words o in
    record {
      sizes = z;
      room = o.room;
      process = sound_process board words o.form z.n_most me mine;
      clean = clean_words board words o.form;
    }

module _ (board : Board) (count : ℕ) (held : Kept) (line words : List ℕ) (out : Writer) (bytes line_gathered : List ℕ) (now : Kept) (left : List ℕ) (closed : Bool)
    (room : longest_row ≤ length out.bytes.now - out.len)
    (g : record { held = held_in line_gathered now; left = left; closed = closed } ≡ gather_of (held_in line held) bytes) where
  -- the bytes ended first
  pub opened : closed ≡ false
      → (feeding_to (running board count now) line_gathered words out, left) ≡ feed_of (feeding_to (running board count held) line words out) bytes
  opened e = fed_open (running board count held) line words out bytes line_gathered now left closed room (running_reads board) g e

  -- one record too many
  pub too_many : (session after : Session) (out_after : Writer) → closed ≡ true → most_records ≤ count
      → session ≡ running board count now
      → EndsWithRow (nobodys_row (most_records + 1) TooManyRecords) session out after out_after
      → (feeding_to after line_gathered words out_after, left) ≡ feed_of (feeding_to (running board count held) line words out) bytes
  too_many session after out_after e many x k =
      let moved : EndsWithRow (nobodys_row (most_records + 1) TooManyRecords) (running board count held) out after out_after =
      record { over = k.over ∙ ap over_of x; printed = k.printed } in
      let told = in_stage (running board count held) words out (Running board) (take now.len line_gathered) after words out_after refl
      (past_records board (running board count held) words out (take now.len line_gathered) after out_after many moved) in
      fed_left (running board count held) line words out bytes line_gathered now left closed room (running_reads board) g after words out_after e told
      (stage_is (run_of (running board count held) words) (run_of after words) (Running board) Over refl (ap (λ (s : Session). s.stage) k.over))

  -- a record answered
  module _ (o : InOrder board words) (s : Settings) (same : board.settings ≡ s) (read : Result Entry Refusal) (me : ℕ) (q : Process)
      (words_after : List ℕ) (out_after : Writer) (e : closed ≡ true) (few : count < most_records)
      (r : read ≡ schedule_of (take now.len line_gathered) s.w) (at : me ≡ slot_of read s.n)
      (k : Answers (count + 1) s read (process_at board me) words out q words_after out_after) where
    told : Tells (record_told (run_of (running board count held) words) (take now.len line_gathered)) out (running (put_process board me q) (count + 1) nothing) words_after out_after
    told =
        in_stage (running board count held) words out (Running board) (take now.len line_gathered) (running (put_process board me q) (count + 1) nothing) words_after out_after refl
        (within_records board (running board count held) words out (take now.len line_gathered) read (running (put_process board me q) (count + 1) nothing) words_after out_after few
        (r ∙ ap (λ (z : Settings). schedule_of (take now.len line_gathered) z.w) (sym same))
        (read_tells board (running board count held) words o read out me q words_after out_after
        (at ∙ ap (λ (z : Settings). slot_of read z.n) (sym same))
        (subst (λ (z : Settings). Answers (count + 1) z read (process_at board me) words out q words_after out_after) (sym same) k)))

    order : InOrder (put_process board me q) words_after
    order =
        session_order (record_told (run_of (running board count held) words) (take now.len line_gathered)) out (running (put_process board me q) (count + 1) nothing)
        words_after out_after told (record_order (run_of (running board count held) words) (take now.len line_gathered) o)

    answered_on : feed_of (feeding_to (running (put_process board me q) (count + 1) nothing) line_gathered words_after out_after) left
        ≡ feed_of (feeding_to (running board count held) line words out) bytes
    answered_on =
        fed_on (running board count held) line words out bytes line_gathered now left closed room (running_reads board) g (running (put_process board me q) (count + 1) nothing) words_after out_after e told
        (stage_is (run_of (running board count held) words) (run_of (running (put_process board me q) (count + 1) nothing) words_after) (Running board) (Running (put_process board me q)) refl refl)

    -- the board is in order and has the same settings, and feeding goes on
    pub goes_on_lem : InOrder (put_process board me q) words_after × (board.settings ≡ s)
        × (feed_of (feeding_to (running (put_process board me q) (count + 1) nothing) line_gathered words_after out_after) left
        ≡ feed_of (feeding_to (running board count held) line words out) bytes)
    goes_on_lem = (order, same, answered_on)
