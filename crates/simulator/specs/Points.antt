-- The program between two reads: its run, what is lent to that, and what waits of its printout; and how it gets from one such
-- point to another, and from its start to its end.
use Rattle.std.specs.Prelude.{ℕ, ◌+◌, ◌-◌, ◌≤◌, ◌≡◌, false, true, List, length, take, replicate}
use Rattle.printout.specs.Writing.{longest_row}
use Rattle.answers.specs.Run.{printout_of}
use Rattle.schedule.specs.declared.Session.{Session}
use Rattle.schedule.specs.Feeding.{Feeding, feeding, finish_of}
use Rattle.schedule.specs.Gathering.{line_length}
use Rattle.schedule.specs.Longest.{longest_printout, may_hold}
use Rattle.schedule.specs.Ready.{Ready}
use Rattle.schedule.specs.WholeInput.{Takes, Ends, started}
use Rattle.simulator.specs.declared.input.Input.{Input}
use Rattle.simulator.specs.declared.output.Output.{Output}
use Rattle.simulator.specs.Inputs.{Reads, buffer_length, stopped}
use Rattle.simulator.specs.Outputs.{MakesRoom, Counts}

-- what `main` lends to a run: a line of 513 bytes, 144 words that are 0, a buffer to read into, and an output with room for a row
pub record Lent (line words buffer out : List ℕ) : Type 0 where
  pub line_long : length line ≡ line_length
  pub words_clear : words ≡ replicate 144 0
  pub buffer_long : length buffer ≡ buffer_length
  pub room : longest_row ≤ length out

pub record Point : Type 0 where
  pub session : Session
  pub line : List ℕ
  pub words : List ℕ
  pub out : List ℕ
  pub held : Output

abbrev pub point : Session → List ℕ → List ℕ → List ℕ → Output → Point
point session line words out held = record { session = session; line = line; words = words; out = out; held = held }

abbrev pub feeding_at : Point → Feeding
feeding_at p = feeding p.session p.line p.words p.out p.held.len

-- the program can go on from here, and will never count beyond the longest printout
pub record Stands (p : Point) : Type 0 where
  pub ready : Ready p.session p.line p.words
  pub within : p.held.len ≤ length p.out
  pub room : longest_row ≤ length p.out
  pub bounded : p.held.written + may_hold (feeding_at p) ≤ longest_printout

-- the bytes are taken, each once and in order, and what is written out meanwhile is counted
pub record Taken (p : Point) (bytes : List ℕ) (q : Point) : Type 0 where
  pub written : List ℕ
  pub takes : Takes (feeding_at p) bytes written (feeding_at q)
  pub counts : Counts p.held (length written) q.held

pub record TakesChunk (p : Point) (chunk : List ℕ) (q : Point) : Type 0 where
  pub taken : Taken p chunk q
  pub stands : Stands q

-- one read into the buffer: all that it gave is taken
pub record Turns (p : Point) (before : Input) (q : Point) (after : Input) (buffer : List ℕ) : Type 0 where
  pub reads : Reads before (length buffer) after
  pub taken : Taken p (take (after.total - before.total) buffer) q
  pub stands : Stands q

-- reads up to the end of the input or of the run: as many bytes are taken as were read
pub record ReadsAll (p q : Point) (after : Input) : Type 0 where
  pub bytes : List ℕ
  pub taken : Taken p bytes q
  pub total : after.total ≡ length bytes
  pub stops : stopped after q.session.stage ≡ true
  pub stands : Stands q

-- room is made, and the last record's row is put into the output
pub record Finishes (p : Point) (out : List ℕ) (after : Output) : Type 0 where
  pub room : Output
  pub made : MakesRoom (length p.out) p.held room
  pub bytes : out ≡ (finish_of (feeding_at (point p.session p.line p.words p.out room))).out
  pub held : after
      ≡ record {
        len = (finish_of (feeding_at (point p.session p.line p.words p.out room))).len;
        written = room.written;
        failed = room.failed;
      }

-- a whole run, but for what waits at its end
pub record Runs (line out out_after : List ℕ) (after : Output) (input : Input) : Type 0 where
  pub ends : Ends (started line out).feeding out_after after.len
  pub read : input.total ≡ length ends.bytes
  pub stops : stopped input ends.before.run.stage ≡ true
  pub counted : after.failed ≡ false → after.written ≡ length ends.written
  pub within : after.len ≤ length out_after
  pub bounded : after.written + after.len ≤ longest_printout

-- a whole run, of which nothing waits: where no write has failed, as many bytes were written as the printout of those read has
pub record Prints (line out out_after : List ℕ) (after : Output) (input : Input) : Type 0 where
  pub last : ℕ
  pub ends : Ends (started line out).feeding out_after last
  pub read : input.total ≡ length ends.bytes
  pub stops : stopped input ends.before.run.stage ≡ true
  pub empty : after.len ≡ 0
  pub counted : after.failed ≡ false → after.written ≡ length (printout_of ends.bytes)
