-- What a run may still print is no more after each record, so that a printout stays below its longest. Assumes nothing.
use Prim.Native.Nat.{ℕ, ◌+◌, ◌*◌, ◌≤◌, ◌<◌}
use mathlib.Core.Path.{◌≡◌, refl, sym, subst}
use mathlib.Core.Bool.{Bool, true, false, cond}
use mathlib.Core.List.{List, [], ◌∷◌}
use native.Mathlib.Omega.{arith}
use borrow.Author.Tests.{ltb-true}
use lib.Dec.{eqb, ltb}
use lib.ListN.{length}
use Rattle.word.specs.declared.Refusal.TheVariants.{TooManyRecords}
use Rattle.rules.specs.Entry.{set_up_rule}
use Rattle.rules.specs.Runs.{begin, step}
use Rattle.rules.specs.declared.Board.{Board}
use Rattle.std.specs.Prelude.{Result, Ok, Err}
use Rattle.word.specs.declared.Refusal.{Refusal}
use Rattle.rules.specs.declared.Settings.{Settings}
use Rattle.record.specs.Entries.{schedule_of}
use Rattle.record.specs.Setup.{settings_of}
use Rattle.record.specs.declared.entries.Entry.{Entry}
use Rattle.record.specs.declared.entries.Entry.TheVariants.{Begin, Step}
use Rattle.answers.specs.Run.{Run, Told, set_up_row, by_set_up, by_settings, set_up_told, state_of, numbered_row, event_told, nobodys_row, by_entry, most_records, too_many_told, schedule_told, told_in, record_told}
use Rattle.answers.specs.declared.Stage.{Stage}
use Rattle.answers.specs.declared.Stage.TheVariants.{Waiting, Running, Over}
use Rattle.printout.proofs.Longest.{row_at_most}
use Rattle.printout.specs.Writing.{longest_row}
use Rattle.schedule.specs.Feeding.{Feeding, holding, telling, record_answered, byte_gathered, take_in, take_byte, is_full, same_stage, feed_of, finish_in, finish_of}
use Rattle.schedule.specs.Gathering.{bytes_of, put, closes}
use Rattle.schedule.specs.Longest.{rows_to_come, bytes_to_come, may_hold}

-- a record's row is one of those to come
abbrev Pays : ℕ → Told → Type 0
Pays most told = length told.printed + bytes_to_come told.run ≤ most

start_pays : (run : Run) (start : Result Board Refusal) (words : List ℕ) → Pays (longest_row * rows_to_come Waiting 0) (by_set_up run start words)
start_pays run (Ok board) words = omega arith
start_pays run (Err why) words = omega (arith, row_at_most (set_up_row why))

settings_pay : (run : Run) (read : Result Settings Refusal) → Pays (longest_row * rows_to_come Waiting 0) (by_settings run read)
settings_pay run (Ok s) = start_pays run (set_up_rule s run.words).0 _
settings_pay run (Err why) = omega (arith, row_at_most (set_up_row why))

entry_pays : (board : Board) (run : Run) (entry : Result Entry Refusal) → run.count < most_records
    → Pays (longest_row * rows_to_come (Running board) run.count) (by_entry board run entry)
unfolding event_told
entry_pays board run (Ok (Begin process call values)) few = omega (arith, row_at_most (numbered_row (run.count + 1) (begin process call values) (state_of board run)))
entry_pays board run (Ok (Step process)) few = omega (arith, row_at_most (numbered_row (run.count + 1) (step process) (state_of board run)))
entry_pays board run (Err why) few = omega (arith, row_at_most (nobodys_row (run.count + 1) why))

schedule_pays : (board : Board) (run : Run) (bytes : List ℕ) → Pays (longest_row * rows_to_come (Running board) run.count) (schedule_told board run bytes)
unfolding schedule_told
schedule_pays board run bytes = go (ltb run.count most_records) refl
  where
    read : Result Entry Refusal
    read = schedule_of bytes board.settings.w

    go : (few : Bool) → ltb run.count most_records ≡ few
        → Pays (longest_row * rows_to_come (Running board) run.count) (cond few (by_entry board run read) (too_many_told run))
    go true e = entry_pays board run read (ltb-true _ _ e)
    go false e = omega (arith, row_at_most (nobodys_row (most_records + 1) TooManyRecords))

told_pays : (s : Stage) (run : Run) (bytes : List ℕ) → run.stage ≡ s → Pays (longest_row * rows_to_come s run.count) (told_in s run bytes)
unfolding set_up_told
told_pays Waiting run bytes e = settings_pay run (settings_of bytes)
told_pays (Running board) run bytes e = schedule_pays board run bytes
told_pays Over run bytes e = subst (λ (s : Stage). 0 + longest_row * rows_to_come s run.count ≤ 0) (sym e) (omega arith)

record_pays : (run : Run) (bytes : List ℕ) → Pays (bytes_to_come run) (record_told run bytes)
unfolding record_told
record_pays run bytes = told_pays run.stage run bytes refl

-- what is held and may come is no more than before
abbrev NoMore : Feeding → Feeding → Type 0
NoMore f after = may_hold after ≤ may_hold f

answered_no_more : (f : Feeding) → NoMore f (record_answered f)
unfolding telling may_hold
answered_no_more f = omega (arith, record_pays f.run (bytes_of f.held))

gathered_no_more : (f : Feeding) (byte : ℕ) → NoMore f (byte_gathered f byte)
unfolding may_hold
gathered_no_more f byte = go (closes f.held byte)
  where
    go : (t : Bool) → NoMore f (cond t (record_answered (holding f (put f.held byte))) (holding f (put f.held byte)))
    go true = answered_no_more (holding f (put f.held byte))
    go false = omega arith

taken_no_more : (s : Stage) (f : Feeding) (byte : ℕ) → NoMore f (take_in s f byte)
taken_no_more Waiting f byte = gathered_no_more f byte
taken_no_more (Running board) f byte = gathered_no_more f byte
taken_no_more Over f byte = omega arith

feed_no_more : (f : Feeding) (bytes : List ℕ) → NoMore f (feed_of f bytes).0
unfolding feed_of take_byte
feed_no_more f [] = omega arith
feed_no_more f (byte ∷ bytes) = go (is_full f) (same_stage f.run (take_byte f byte).run) (feed_no_more (take_byte f byte) bytes)
  where
    go : (full same : Bool) → NoMore (take_byte f byte) (feed_of (take_byte f byte) bytes).0
        → NoMore f (cond full (f, byte ∷ bytes) (cond same (feed_of (take_byte f byte) bytes) (take_byte f byte, bytes))).0
    go true same rest = omega arith
    go false true rest = omega (arith, taken_no_more f.run.stage f byte, rest)
    go false false rest = taken_no_more f.run.stage f byte

pub fed_no_more : (f after : Feeding) (bytes left : List ℕ) → ◌≡◌ {A = Feeding × List ℕ} (after, left) (feed_of f bytes) → may_hold after ≤ may_hold f
fed_no_more f after bytes left e = subst (λ (r : Feeding × List ℕ). NoMore f r.0) (sym e) (feed_no_more f bytes)

pub finished_no_more : (f : Feeding) → may_hold (finish_of f) ≤ may_hold f
unfolding finish_of
finished_no_more f = go (eqb f.held.held 0)
  where
    go : (t : Bool) → NoMore f (finish_in t f)
    go true = omega arith
    go false = answered_no_more f
