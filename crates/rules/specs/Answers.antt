-- What document 01's printout says of each answer: its word, and the numbers that stand in the value fields. And the number
-- and values of what the other entry points answer.
use Rattle.std.specs.Prelude.{List, [], ◌∷◌, ℕ, take}
use Rattle.word.specs.Refusals.{number, Told, told}
use Rattle.rules.specs.Text.{ascii}
use Rattle.rules.specs.Types.{Begun, Busy, Value, Witness, Yes, No, Reply, Result, Ok, Err, Board, Refusal}

abbrev pub answer_word : Reply → List ℕ
answer_word (Ok Begun) = ascii "begun"
answer_word (Ok Busy) = ascii "busy"
answer_word (Ok (Value values)) = ascii "value"
answer_word (Ok (Witness process)) = ascii "witness"
answer_word (Ok Yes) = ascii "yes"
answer_word (Ok No) = ascii "no"
answer_word (Err refusal) = ascii "refused"

-- `value` puts its W values in v0 and on, `witness` and `refused` put their number in v0
abbrev pub numbers_of : ℕ → Reply → List ℕ
numbers_of w (Ok (Value values)) = take w values
numbers_of w (Ok (Witness process)) = process ∷ []
numbers_of w (Err refusal) = number refusal ∷ []
numbers_of w (Ok Begun) = []
numbers_of w (Ok Busy) = []
numbers_of w (Ok Yes) = []
numbers_of w (Ok No) = []

-- a set-up that stands has no values; an open count is one
abbrev pub start_told : Result Board Refusal → Told
start_told = told (λ board. [])

abbrev pub open_told : Result ℕ Refusal → Told
open_told = told (λ count. count ∷ [])
