-- Document 01, "Schedule and printout": the heading, and a row of the printout with its nine fields.
use Rattle.std.specs.Prelude.{List, [], ◌∷◌, ℕ, zero, suc, Option, Some, None}
use Rattle.rules.specs.Answers.{answer_word, numbers_of}
use Rattle.rules.specs.Text.{ascii}
use Rattle.fields.specs.Decimal.{decimal}
use Rattle.record.specs.Words.{act_word}
use Rattle.writing.specs.Line.{line}
use Rattle.printout.specs.declared.Row.{Row}
use Rattle.printout.specs.declared.Who.{Who}
use Rattle.printout.specs.declared.Who.TheVariants.{Nobody, SetUp, Process}

abbrev pub heading : List ℕ
heading = ascii "no,process,act,answer,open,v0,v1,v2,v3\r\n"

abbrev pub process_field : Who → List ℕ
process_field Nobody = []
process_field SetUp = []
process_field (Process process act) = decimal process

abbrev pub act_field : Who → List ℕ
act_field Nobody = []
act_field SetUp = ascii "setup"
act_field (Process process act) = act_word act

abbrev pub open_field : Option ℕ → List ℕ
open_field None = []
open_field (Some count) = decimal count

-- field k of the values: number k, and blank where there are no more
abbrev pub value_field : ℕ → List ℕ → List ℕ
value_field k [] = []
value_field zero (v ∷ numbers) = decimal v
value_field (suc k) (v ∷ numbers) = value_field k numbers

abbrev pub value_fields : List ℕ → List (List ℕ)
value_fields numbers = value_field 0 numbers ∷ value_field 1 numbers ∷ value_field 2 numbers ∷ value_field 3 numbers ∷ []

-- record number, process, act, answer, open count, four values
unfoldable pub row_of : Row → List ℕ
row_of row =
    line (decimal row.number)
    (process_field row.who
    ∷ act_field row.who
    ∷ answer_word row.answer
    ∷ open_field row.open
    ∷ value_fields (numbers_of row.w row.answer))
