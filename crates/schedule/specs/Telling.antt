-- What answering a record leaves: the session, the words, and what is printed after what is written.
use Rattle.std.specs.Prelude.{ℕ, ◌≡◌, List}
use Rattle.writing.specs.Put.{Puts}
use Rattle.writing.specs.declared.writer.Writer.{Writer}
use Rattle.printout.specs.Row.{row_of}
use Rattle.schedule.specs.Feeding.{session_of}
use Rattle.schedule.specs.Gathering.{nothing}
use Rattle.answers.specs.Run.{Told}
use Rattle.printout.specs.declared.Row.{Row}
use Rattle.schedule.specs.declared.Session.{Session}
use Rattle.answers.specs.declared.Stage.TheVariants.{Over}

pub record Tells (told : Told) (out : Writer) (after : Session) (words_after : List ℕ) (out_after : Writer) : Type 0 where
  pub session : after ≡ session_of told.run
  pub memory : words_after ≡ told.run.words
  pub printed : Puts out told.printed out_after

-- a row is written, and the run is over
abbrev pub over_of : Session → Session
over_of session = record { stage = Over; count = session.count; held = nothing }

pub record EndsWithRow (row : Row) (session : Session) (out : Writer) (after : Session) (out_after : Writer) : Type 0 where
  pub over : after ≡ over_of session
  pub printed : Puts out (row_of row) out_after
