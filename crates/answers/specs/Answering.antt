-- What answering a record leaves: the one process, the words, and the row after what is written.
use Rattle.std.specs.Prelude.{ℕ, ◌≡◌, List, Result}
use Rattle.word.specs.declared.Refusal.{Refusal}
use Rattle.rules.specs.declared.Process.{Process}
use Rattle.rules.specs.declared.Settings.{Settings}
use Rattle.record.specs.declared.entries.Entry.{Entry}
use Rattle.writing.specs.Put.{Puts}
use Rattle.writing.specs.declared.writer.Writer.{Writer}
use Rattle.printout.specs.Row.{row_of}
use Rattle.answers.specs.Moves.{move_of, row_by}

pub record Answers (number : ℕ) (s : Settings) (entry : Result Entry Refusal) (p : Process) (words : List ℕ) (out : Writer)
    (q : Process) (words_after : List ℕ) (out_after : Writer) : Type 0 where
  pub process : q ≡ (move_of s entry p words).0.after
  pub memory : words_after ≡ (move_of s entry p words).1
  pub row : Puts out (row_of (row_by number s entry (move_of s entry p words).0)) out_after
