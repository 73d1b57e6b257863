-- Bytes fed to a run: what stands in the lent line, words and output after them.
use Rattle.std.specs.Prelude.{ℕ, ◌+◌, ◌-◌, Bool, true, false, cond, List, [], ◌∷◌, eqb, ltb, length}
use Rattle.std.proofs.lemmas.List.Edits.{sets}
use Rattle.writing.specs.declared.writer.Writer.{Writer}
use Rattle.printout.specs.Writing.{longest_row}
use Rattle.schedule.specs.Gathering.{Held, held_in, nothing, bytes_of, nothing_held, put, closes}
use Rattle.answers.specs.Run.{Run, Told, record_told}
use Rattle.schedule.specs.declared.Session.{Session}
use Rattle.answers.specs.declared.Stage.{Stage}
use Rattle.answers.specs.declared.Stage.TheVariants.{Waiting, Running, Over}

-- a run, the record that is being gathered, and the output, of which the first `len` bytes are written
pub record Feeding : Type 0 where
  pub run : Run
  pub held : Held
  pub out : List ℕ
  pub len : ℕ

abbrev pub run_of : Session → List ℕ → Run
run_of session words = record { stage = session.stage; words = words; count = session.count }

-- a run with nothing held of its next record
abbrev pub session_of : Run → Session
session_of run = record { stage = run.stage; count = run.count; held = nothing }

-- a session with the line, the words and the output that are lent to it
abbrev pub feeding : Session → List ℕ → List ℕ → List ℕ → ℕ → Feeding
feeding session line words out len =
    record {
      run = run_of session words;
      held = held_in line session.held;
      out = out;
      len = len;
    }

-- the same with a writer's bytes for the output
abbrev pub feeding_to : Session → List ℕ → List ℕ → Writer → Feeding
feeding_to session line words out = feeding session line words out.bytes.now out.len

abbrev pub holding : Feeding → Held → Feeding
holding f h = record { run = f.run; held = h; out = f.out; len = f.len }

-- what a record prints is written, and the next record begins
unfoldable pub telling : Feeding → Told → Feeding
telling f told =
    record {
      run = told.run;
      held = nothing_held f.held.line;
      out = sets f.out f.len told.printed;
      len = f.len + length told.printed;
    }

-- the gathered record is answered
abbrev pub record_answered : Feeding → Feeding
record_answered f = telling f (record_told f.run (bytes_of f.held))

-- a byte of the input, at whose pair the record is answered
abbrev pub byte_gathered : Feeding → ℕ → Feeding
byte_gathered f byte =
    cond (closes f.held byte) (record_answered (holding f (put f.held byte))) (holding f (put f.held byte))

abbrev pub is_over : Stage → Bool
is_over Waiting = false
is_over (Running board) = false
is_over Over = true

-- when the run is over the input is not looked at
abbrev pub take_in : Stage → Feeding → ℕ → Feeding
take_in Waiting f byte = byte_gathered f byte
take_in (Running board) f byte = byte_gathered f byte
take_in Over f byte = f

unfoldable pub take_byte : Feeding → ℕ → Feeding
take_byte f byte = take_in f.run.stage f byte

-- there may be no room for another row
unfoldable pub is_full : Feeding → Bool
is_full f = ltb (length f.out - f.len) longest_row

abbrev pub stage_number : Stage → ℕ
stage_number Waiting = 0
stage_number (Running board) = 1
stage_number Over = 2

unfoldable pub same_stage : Run → Run → Bool
same_stage a b = eqb (stage_number a.stage) (stage_number b.stage)

-- bytes are taken until there is no room for another row, the stage changes, or none is left; and those that are left
unfoldable pub feed_of : Feeding → List ℕ → Feeding × List ℕ
feed_of f [] = (f, [])
feed_of f (byte ∷ bytes) =
    cond (is_full f) (f, byte ∷ bytes)
    (cond (same_stage f.run (take_byte f byte).run)
    (feed_of (take_byte f byte) bytes)
    (take_byte f byte, bytes))

-- the input has ended: a last record without its pair is answered
abbrev pub finish_in : Bool → Feeding → Feeding
finish_in true f = f
finish_in false f = record_answered f

unfoldable pub finish_of : Feeding → Feeding
finish_of f = finish_in (eqb f.held.held 0) f
