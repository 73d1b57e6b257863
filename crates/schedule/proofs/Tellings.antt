-- What answering leaves, put together; and a run in order stays so after each record. Assumes nothing.
use Prim.Native.Nat.{ℕ, ◌+◌, ◌≤◌, ◌<◌}
use mathlib.Core.Path.{◌≡◌, refl, sym, ap, ◌∙◌, subst}
use mathlib.Core.Bool.{Bool, true, false, cond}
use mathlib.Core.List.{List}
use borrow.Author.Tests.{lt-ltb, le-ltb}
use native.Mathlib.Omega.{arith}
use lib.Dec.{ltb}
use lib.ListN.{length}
use lib.Seq.{sets}
use Rattle.rules.specs.Entry.{fresh_words}
use Rattle.rules.specs.Sizes.{words_used}
use Rattle.std.specs.Prelude.{Result, Ok, Err}
use Rattle.rules.specs.Refusals.{Check, sizes_check}
use Rattle.rules.specs.declared.Board.{Board}
use Rattle.rules.specs.declared.Settings.{Settings}
use Rattle.rules.specs.Processes.{process_at, put_process}
use Rattle.rules.specs.Figure4.{Step}
use Rattle.rules.specs.declared.Process.{Process}
use Rattle.rules.proofs.Refusals.Checked.{stands}
use Rattle.rules.proofs.GoodForm.Fresh.{set_up_accepted, fresh_in_form, fresh_length}
use Rattle.rules.proofs.Refusals.Refusing.{set_up_refused_lem}
use Rattle.rules.proofs.Sizes.Sized.{sized}
use Rattle.record.specs.Entries.{schedule_of}
use Rattle.record.specs.Setup.{settings_of}
use Rattle.record.specs.declared.entries.Entry.{Entry}
use Rattle.printout.specs.Row.{row_of}
use Rattle.printout.specs.declared.Row.{Row}
use Rattle.word.specs.declared.Refusal.{Refusal}
use Rattle.word.specs.declared.Refusal.TheVariants.{TooManyRecords}
use Rattle.answers.specs.Answering.{Answers}
use Rattle.writing.specs.Put.{Puts}
use Rattle.writing.specs.declared.writer.Writer.{Writer}
use Rattle.schedule.specs.Telling.{Tells, EndsWithRow}
use Rattle.schedule.specs.Feeding.{run_of, session_of, feeding, feeding_to, telling}
use Rattle.schedule.specs.Gathering.{nothing}
use Rattle.answers.specs.Moves.{slot_of, move_of, row_by}
use Rattle.answers.specs.Order.{InOrder, OrderIn}
use Rattle.answers.specs.Run.{Run, Told, ended, by_set_up, by_settings, set_up_told, nobodys_row, by_entry, most_records, too_many_told, schedule_told, told_in, record_told}
use Rattle.schedule.specs.declared.Session.{Session}
use Rattle.answers.specs.declared.Stage.{Stage}
use Rattle.answers.specs.declared.Stage.TheVariants.{Waiting, Running, Over}
use Rattle.answers.proofs.EntryTold.{entry_told, entry_order}

-- a run that ends with a row
pub ends_tell : (row right : Row) (session after : Session) (words words_after : List ℕ) (out out_after : Writer)
    → row ≡ right → EndsWithRow row session out after out_after
    → Tells (record { printed = row_of right; run = ended (run_of session words) words_after }) out after words_after out_after
ends_tell row right session after words words_after out out_after e k =
    record {
      session = k.over;
      memory = refl;
      printed = subst (λ (r : Row). Puts out (row_of r) out_after) e k.printed;
    }

-- a telling is what a session becomes
pub tells_feeding : (told : Told) (session after : Session) (line words words_after : List ℕ) (out out_after : Writer)
    → Tells told out after words_after out_after
    → feeding_to after line words_after out_after ≡ telling (feeding_to session line words out) told
unfolding telling
tells_feeding told session after line words words_after out out_after k =
    ap (λ (s : Session). feeding_to s line words_after out_after) k.session
    ∙ ap (λ (w : List ℕ). feeding_to (session_of told.run) line w out_after) k.memory
    ∙ ap (λ (o : List ℕ). feeding (session_of told.run) line told.run.words o out_after.len) k.printed.written.list
    ∙ ap (λ (n : ℕ). feeding (session_of told.run) line told.run.words (sets out.bytes.now out.len told.printed) n) k.printed.written.place

-- the order of a run after a record
abbrev Orderly : Run → Type 0
Orderly run = OrderIn run.stage run.words

set_up_order : (run : Run) (s : Settings) → Orderly (by_settings run (Ok s)).run
set_up_order run s = go (sizes_check s (length run.words)) refl
  where
    go : (c : Check) → sizes_check s (length run.words) ≡ c → Orderly (by_settings run (Ok s)).run
    go (Ok done) e =
        let k = stands s run.words e in
        let room : words_used s ≤ length (fresh_words s run.words) = omega (arith, fresh_length s run.words k.room, k.room) in
        subst (λ (r : Result Board Refusal × List ℕ). Orderly (by_set_up run r.0 r.1).run) (sym (set_up_accepted s run.words e))
        (record { settings = k.settings; room = room; form = fresh_in_form s run.words (sized s k.settings) })
    go (Err why) e =
        subst (λ (r : Result Board Refusal × List ℕ). Orderly (by_set_up run r.0 r.1).run) (sym (set_up_refused_lem s run.words why e))
        tt

settings_order : (run : Run) (read : Result Settings Refusal) → Orderly (by_settings run read).run
settings_order run (Ok s) = set_up_order run s
settings_order run (Err why) = tt

schedule_order : (board : Board) (run : Run) (bytes : List ℕ) → InOrder board run.words → Orderly (schedule_told board run bytes).run
unfolding schedule_told
schedule_order board run bytes o = go (ltb run.count most_records)
  where
    read : Result Entry Refusal
    read = schedule_of bytes board.settings.w

    entered : Orderly (by_entry board run read).run
    entered =
        subst (λ (t : Told). Orderly t.run) (sym (entry_told board run o read))
        (entry_order board run o read)

    go : (t : Bool) → Orderly (cond t (by_entry board run read) (too_many_told run)).run
    go true = entered
    go false = tt

told_order : (s : Stage) (run : Run) (bytes : List ℕ) → run.stage ≡ s → OrderIn s run.words → Orderly (told_in s run bytes).run
unfolding set_up_told
told_order Waiting run bytes e o = settings_order run (settings_of bytes)
told_order (Running board) run bytes e o = schedule_order board run bytes o
told_order Over run bytes e o = subst (λ (s : Stage). OrderIn s run.words) (sym e) tt

pub record_order : (run : Run) (bytes : List ℕ) → OrderIn run.stage run.words
    → OrderIn (record_told run bytes).run.stage (record_told run bytes).run.words
unfolding record_told
record_order run bytes o = told_order run.stage run bytes refl o

-- .. of a session that tells it
pub session_order : (told : Told) (out : Writer) (after : Session) (words : List ℕ) (out_after : Writer)
    → Tells told out after words out_after → OrderIn told.run.stage told.run.words
    → OrderIn after.stage words
session_order told out after words out_after k o =
    subst (λ (w : List ℕ). OrderIn after.stage w) (sym k.memory)
    (subst (λ (s : Session). OrderIn s.stage told.run.words) (sym k.session) o)

-- a schedule record in range
pub read_tells : (board : Board) (session : Session) (words : List ℕ) (o : InOrder board words) (entry : Result Entry Refusal) (out : Writer)
    (me : ℕ) (q : Process) (words_after : List ℕ) (out_after : Writer) → me ≡ slot_of entry board.settings.n
    → Answers (session.count + 1) board.settings entry (process_at board me) words out q words_after out_after
    → Tells (by_entry board (run_of session words) entry) out
    (record { stage = Running (put_process board me q); count = session.count + 1; held = nothing }) words_after out_after
read_tells board session words o entry out me q words_after out_after e k =
    subst (λ (t : Told). Tells t out (record { stage = Running (put_process board me q); count = session.count + 1; held = nothing }) words_after out_after)
    (ap (λ (i : ℕ). record {
      printed = row_of (row_by (session.count + 1) board.settings entry (moved i).0);
      run = record { stage = Running (put_process board i (moved i).0.after); words = (moved i).1; count = session.count + 1 };
    }) e ∙ sym (entry_told board (run_of session words) o entry))
    (record {
      session = ap (λ (p : Process). record { stage = Running (put_process board me p); count = session.count + 1; held = nothing }) k.process;
      memory = k.memory;
      printed = k.row;
    })
  where
    moved : ℕ → Step
    moved i = move_of board.settings entry (process_at board i) words

-- a schedule record in range, by its bytes
abbrev said : Board → Run → List ℕ → Told
said board run bytes = by_entry board run (schedule_of bytes board.settings.w)

module _ (board : Board) (session : Session) (words : List ℕ) (out : Writer) where
  -- a schedule record, by its number
  pub within_records : (bytes : List ℕ) (read : Result Entry Refusal) (after : Session) (words_after : List ℕ) (out_after : Writer)
      → session.count < most_records → read ≡ schedule_of bytes board.settings.w
      → Tells (by_entry board (run_of session words) read) out after words_after out_after
      → Tells (schedule_told board (run_of session words) bytes) out after words_after out_after
  unfolding schedule_told
  within_records bytes read after words_after out_after few e k =
      subst (λ (t : Told). Tells t out after words_after out_after)
      (ap (by_entry board (run_of session words)) e
      ∙ ap (λ (t : Bool). cond t (said board (run_of session words) bytes) (too_many_told (run_of session words)))
      (sym (lt-ltb session.count most_records few))) k

  pub past_records : (bytes : List ℕ) (after : Session) (out_after : Writer)
      → most_records ≤ session.count → EndsWithRow (nobodys_row (most_records + 1) TooManyRecords) session out after out_after
      → Tells (schedule_told board (run_of session words) bytes) out after words out_after
  unfolding schedule_told
  past_records bytes after out_after many k =
      subst (λ (t : Bool). Tells (cond t (said board (run_of session words) bytes) (too_many_told (run_of session words))) out after words out_after)
      (sym (le-ltb session.count most_records many))
      (ends_tell _ (nobodys_row (most_records + 1) TooManyRecords) session after words words out out_after refl k)

module _ (session : Session) (words : List ℕ) (out : Writer) where
  -- any record, by the stage
  pub in_stage : (s : Stage) (bytes : List ℕ) (after : Session) (words_after : List ℕ) (out_after : Writer) → session.stage ≡ s
      → Tells (told_in s (run_of session words) bytes) out after words_after out_after
      → Tells (record_told (run_of session words) bytes) out after words_after out_after
  unfolding record_told
  in_stage s bytes after words_after out_after e k =
      subst (λ (x : Stage). Tells (told_in x (run_of session words) bytes) out after words_after out_after) (sym e) k
