-- How long a printout can become: its heading, and a longest row for each record that can still have one.
use Rattle.std.specs.Prelude.{ℕ, ◌+◌, ◌-◌, ◌*◌, length}
use Rattle.printout.specs.Row.{heading}
use Rattle.printout.specs.Writing.{longest_row}
use Rattle.answers.specs.Run.{Run, most_records}
use Rattle.answers.specs.declared.Stage.{Stage}
use Rattle.answers.specs.declared.Stage.TheVariants.{Waiting, Running, Over}
use Rattle.schedule.specs.Feeding.{Feeding}

-- the rows that may still come: of 1,000,000 records and of 12, or of a refused set-up
abbrev pub rows_to_come : Stage → ℕ → ℕ
rows_to_come Waiting count = most_records + 1
rows_to_come (Running board) count = (most_records - count) + 1
rows_to_come Over count = 0

abbrev pub bytes_to_come : Run → ℕ
bytes_to_come run = longest_row * rows_to_come run.stage run.count

abbrev pub longest_printout : ℕ
longest_printout = length heading + longest_row * (most_records + 1)

-- what the output holds and what may still come
unfoldable pub may_hold : Feeding → ℕ
may_hold f = f.len + bytes_to_come f.run
