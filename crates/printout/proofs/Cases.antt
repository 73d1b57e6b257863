-- The heading, the rows that document 01 quotes beside its listing, and rows of other kinds, by computation from the definitions.
-- Assumes nothing.
use mathlib.Core.Path.{◌≡◌, refl}
use mathlib.Core.List.{List, [], ◌∷◌}
use Prim.Native.Nat.{ℕ, ◌^◌, ◌-◌}
use lib.ListN.{length, replicate}
use Rattle.word.specs.declared.Refusal.TheVariants.{SettingOutsideSizes, NoSuchProcess, TooManyRecords}
use Rattle.std.specs.Prelude.{Ok, Err, Option, Some, None}
use Rattle.rules.specs.Types.{Reply}
use Rattle.rules.specs.declared.Answer.TheVariants.{Busy, Value, Witness}
use Rattle.record.specs.declared.Act.{Act}
use Rattle.record.specs.declared.Act.TheVariants.{Step}
use Rattle.rules.specs.Text.{ascii}
use Rattle.writing.specs.Line.{line}
use Rattle.fields.specs.Decimal.{decimal_in}
use Rattle.printout.specs.Row.{heading, row_of}
use Rattle.printout.specs.Writing.{longest_row}
use Rattle.printout.specs.declared.Row.{Row}
use Rattle.printout.specs.declared.Who.{Who}
use Rattle.printout.specs.declared.Who.TheVariants.{Nobody, SetUp, Process}

-- a row of a board of one segment
abbrev row_on : ℕ → Who → Reply → Option ℕ → Row
row_on n who answer shown = record { number = n; who = who; answer = answer; «open» = shown; w = 1 }

-- record n, process p, act, answer, open count
abbrev printed : ℕ → ℕ → Act → Reply → ℕ → List ℕ
printed n p act answer count = row_of (row_on n (Process p act) answer (Some count))

heading_line : heading ≡ line (ascii "no") (ascii "process" ∷ ascii "act" ∷ ascii "answer" ∷ ascii "open" ∷ ascii "v0" ∷ ascii "v1" ∷ ascii "v2" ∷ ascii "v3" ∷ [])
heading_line = refl

-- a refused set-up, and the record after the 1,000,000th
set_up_row_lem : row_of (row_on 0 SetUp (Err SettingOutsideSizes) None) ≡ ascii "0,,setup,refused,,1,,,\r\n"
unfolding row_of decimal_in
set_up_row_lem = refl

too_many_row : row_of (row_on 1000001 Nobody (Err TooManyRecords) None) ≡ ascii "1000001,,,refused,,12,,,\r\n"
unfolding row_of decimal_in
too_many_row = refl

-- after 4 open is blank, and process and act are as given
no_process_row : row_of (row_on 5 (Process 18446744073709551615 Step) (Err NoSuchProcess) None) ≡ ascii "5,18446744073709551615,step,refused,,4,,,\r\n"
unfolding row_of decimal_in
no_process_row = refl

-- a witness puts its number in v0; W values stand in v0 and on, and a step that ends no call has none
witness_row : printed 12 1 Step (Ok (Witness 0)) 1 ≡ ascii "12,1,step,witness,1,0,,,\r\n"
unfolding row_of decimal_in
witness_row = refl

busy_row : printed 13 0 Step (Ok Busy) 1 ≡ ascii "13,0,step,busy,1,,,,\r\n"
unfolding row_of decimal_in
busy_row = refl

three_values : Row
three_values = record { number = 20; who = Process 15 Step; answer = Ok (Value (5 ∷ 0 ∷ 70 ∷ 8 ∷ [])); «open» = Some 16; w = 3 }

values_row : row_of three_values ≡ ascii "20,15,step,value,16,5,0,70,\r\n"
unfolding row_of decimal_in three_values
values_row = refl

-- the longest row there is
greatest : ℕ
greatest = 2 ^ 64 - 1

longest : Row
longest = record { number = greatest; who = Process greatest Step; answer = Ok (Value (replicate 4 greatest)); «open» = Some greatest; w = 4 }

longest_row_lem : length (row_of longest) ≡ longest_row
unfolding row_of decimal_in longest greatest
longest_row_lem = refl
