-- The whole input: in whatever pieces its bytes are fed, and whenever the output is written out, what is written is the
-- printout of all bytes read.
use Rattle.std.specs.Prelude.{ℕ, ◌-◌, ◌≤◌, ◌≡◌, false, List, [], ◌∷◌, ◌++◌, length, take}
use Rattle.std.proofs.lemmas.List.Edits.{sets}
use Rattle.printout.specs.Row.{heading}
use Rattle.printout.specs.Writing.{longest_row}
use Rattle.schedule.specs.Feeding.{Feeding, feed_of, finish_of, is_full}
use Rattle.schedule.specs.Gathering.{line_length, nothing_held}
use Rattle.answers.specs.Run.{beginning_run, printout_of}
use Rattle.answers.specs.declared.Stage.TheVariants.{Over}

-- what a caller does between the start and the end: it offers bytes, or writes out what the output holds
pub data Action : Type 0 where
  offer : List ℕ → Action
  flush : Action

-- where it then stands: the bytes that were read of those offered, and the bytes written out
pub record Caller : Type 0 where
  pub feeding : Feeding
  pub read : List ℕ
  pub written : List ℕ

-- what the output holds
abbrev pub output : Feeding → List ℕ
output f = take f.len f.out

abbrev pub started : List ℕ → List ℕ → Caller
started line out =
    record {
      feeding = record { run = beginning_run; held = nothing_held line; out = sets out 0 heading; len = length heading };
      read = [];
      written = [];
    }

abbrev pub act : Caller → Action → Caller
act c (offer bytes) =
    record {
      feeding = (feed_of c.feeding bytes).0;
      read = c.read ++ take (length bytes - length (feed_of c.feeding bytes).1) bytes;
      written = c.written;
    }
act c flush =
    record {
      feeding = record { run = c.feeding.run; held = c.feeding.held; out = c.feeding.out; len = 0 };
      read = c.read;
      written = c.written ++ output c.feeding;
    }

unfoldable pub acts : Caller → List Action → Caller
acts c [] = c
acts c (action ∷ actions) = acts (act c action) actions

-- a caller of whom nothing is asked but what comes next
abbrev pub from : Feeding → Caller
from f = record { feeding = f; read = []; written = [] }

-- the bytes are taken, each once and in their order, and what the output holds is written out in between as need be
pub record Takes (f : Feeding) (bytes written : List ℕ) (after : Feeding) : Type 0 where
  pub actions : List Action
  pub leads : acts (from f) actions ≡ record { feeding = after; read = bytes; written = written }

-- some bytes are taken and the input ends, with room for a last row: what was written out, and what the output then holds
pub record Ends (f : Feeding) (out : List ℕ) (len : ℕ) : Type 0 where
  pub bytes : List ℕ
  pub written : List ℕ
  pub before : Feeding
  pub takes : Takes f bytes written before
  pub room : is_full before ≡ false
  pub held : output (finish_of before) ≡ take len out

-- a line of 513 bytes and an output with room for a row are lent
pub record Whole : Type 1 where
  -- where the input ends, with room for a last row
  pub ends : (line out : List ℕ) → length line ≡ line_length → longest_row ≤ length out → (actions : List Action)
      → is_full (acts (started line out) actions).feeding ≡ false
      → (acts (started line out) actions).written ++ output (finish_of (acts (started line out) actions).feeding)
      ≡ printout_of (acts (started line out) actions).read
  -- where the run is over, whatever bytes are still to come
  pub over : (line out : List ℕ) → length line ≡ line_length → longest_row ≤ length out → (actions : List Action)
      → (acts (started line out) actions).feeding.run.stage ≡ Over → (rest : List ℕ)
      → (acts (started line out) actions).written ++ output (acts (started line out) actions).feeding
      ≡ printout_of ((acts (started line out) actions).read ++ rest)
  -- where bytes were taken so and the input has ended
  pub taken : (line out : List ℕ) → length line ≡ line_length → longest_row ≤ length out → (out_after : List ℕ) (len : ℕ)
      → (e : Ends (started line out).feeding out_after len)
      → e.written ++ take len out_after ≡ printout_of e.bytes
