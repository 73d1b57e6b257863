-- No row is longer than the longest one, so a place with that much room holds any row. Assumes nothing.
use mathlib.Core.List.{List, [], ◌∷◌}
use Prim.Native.Nat.{ℕ, zero, suc, ◌+◌, ◌≤◌}
use native.Mathlib.Omega.{arith}
use lib.ListN.{length, take, length-append}
use Rattle.word.specs.Refusals.{number}
use Rattle.std.specs.Prelude.{Ok, Err, Option, Some, None}
use Rattle.rules.specs.Types.{Reply}
use Rattle.rules.specs.declared.Answer.TheVariants.{Begun, Busy, Value, Witness, Yes, No}
use Rattle.record.specs.declared.Act.{Act}
use Rattle.record.specs.declared.Act.TheVariants.{Load, Validate, Store, Step}
use Rattle.writing.specs.Line.{after_comma, rest}
use Rattle.record.specs.Words.{act_word}
use Rattle.printout.specs.Row.{process_field, act_field, open_field, value_field, value_fields, row_of}
use Rattle.rules.specs.Answers.{answer_word, numbers_of}
use Rattle.printout.specs.Writing.{longest_row}
use Rattle.printout.specs.declared.Row.{Row}
use Rattle.printout.specs.declared.Who.{Who}
use Rattle.printout.specs.declared.Who.TheVariants.{Nobody, SetUp, Process}
use Rattle.fields.proofs.Decimals.{short}
use Rattle.printout.proofs.Rows.{length_values, length_row}

act_at_most : (act : Act) → length (act_word act) ≤ 4
act_at_most Load = omega arith
act_at_most Validate = omega arith
act_at_most Store = omega arith
act_at_most Step = omega arith

-- process and act: 20 digits and `step`, with two commas
who_at_most : (who : Who) → length (after_comma (process_field who)) + length (after_comma (act_field who)) ≤ 26
who_at_most Nobody = omega arith
who_at_most SetUp = omega arith
who_at_most (Process process act) = omega (arith, short 20 process, act_at_most act)

open_at_most : (shown : Option ℕ) → length (open_field shown) ≤ 20
open_at_most None = omega arith
open_at_most (Some count) = short 20 count

value_at_most : (k : ℕ) (numbers : List ℕ) → length (value_field k numbers) ≤ 20
value_at_most k [] = omega arith
value_at_most zero (v ∷ numbers) = short 20 v
value_at_most (suc k) (v ∷ numbers) = value_at_most k numbers

-- the answer with its comma, the value fields and the line's end: `value` and 4 numbers of 20 digits
answer_at_most : (answer : Reply) (w : ℕ)
    → length (after_comma (answer_word answer)) + length (rest (value_fields (numbers_of w answer))) ≤ 92
answer_at_most (Ok (Value values)) w =
    let shown = take w values in
    omega (arith, length_values shown, value_at_most 0 shown, value_at_most 1 shown, value_at_most 2 shown, value_at_most 3 shown)
answer_at_most (Ok (Witness process)) w = omega (arith, length_values (process ∷ []), short 20 process)
answer_at_most (Err refusal) w = omega (arith, length_values (number refusal ∷ []), short 20 (number refusal))
answer_at_most (Ok Begun) w = omega arith
answer_at_most (Ok Busy) w = omega arith
answer_at_most (Ok Yes) w = omega arith
answer_at_most (Ok No) w = omega arith

pub row_at_most : (row : Row) → length (row_of row) ≤ longest_row
row_at_most row =
    omega (
      arith,
      length_row row,
      short 20 row.number,
      length-append (after_comma (process_field row.who)) (after_comma (act_field row.who)),
      who_at_most row.who,
      answer_at_most row.answer row.w,
      open_at_most row.open,
    )
