-- Begins and steps in any order, over the entry rules: the state after them, and what each answers.
use Rattle.std.specs.Prelude.{List, [], ◌∷◌, ℕ, ◌+◌}
use Rattle.std.specs.Result.{result_unwrap_or}
use Rattle.rules.specs.Answers.{numbers_of}
use Rattle.rules.specs.Entry.{blank_board, set_up_rule, begin_rule, step_rule, open_count_rule}
use Rattle.rules.specs.Text.{load_text, validate_text, store_text, step_text}
use Rattle.rules.specs.Types.{Reply, Answered, Board, Call, Load, Validate, Store, Result, Refusal, Settings}

pub record State : Type 0 where
  pub board : Board
  pub words : List ℕ

-- a process begins a call, with the values beside it; a process takes a step
pub data Event : Type 0 where
  begin : ℕ → Call → List ℕ → Event
  step : ℕ → Event

abbrev pub process_of : Event → ℕ
process_of (begin me call values) = me
process_of (step me) = me

-- what the entry point gives; a begin changes no word
abbrev pub entry : Event → State → Answered Board × List ℕ
entry (begin me call values) state = (begin_rule state.board me call values state.words, state.words)
entry (step me) state = step_rule state.board me state.words

abbrev pub after : Event → State → State
after event state = record { board = (entry event state).0.after; words = (entry event state).1 }

-- what a set-up gives, with the words; where it is refused, a board that refuses all
abbrev pub given : Result Board Refusal × List ℕ → State
given set = record { board = result_unwrap_or set.0 blank_board; words = set.1 }

abbrev pub fresh : Settings → List ℕ → State
fresh s lent = given (set_up_rule s lent)

-- the state after the events, the last of which stands first
unfoldable pub run : State → List Event → State
run start [] = start
run start (event ∷ events) = after event (run start events)

-- what a row of the printout tells of an event: the answer, the open count after it, and the numbers in its value fields
pub record EventRow : Type 0 where
  pub answer : Reply
  pub open' : Result ℕ Refusal
  pub numbers : List ℕ

abbrev pub event_row : Event → State → EventRow
event_row event state =
    record {
      answer = (entry event state).0.answer;
      open' = open_count_rule (after event state).board (process_of event) (after event state).words;
      numbers = numbers_of state.board.settings.w (entry event state).0.answer;
    }

-- the rows of a schedule, whose first event stands first
unfoldable pub rows : State → List Event → List EventRow
rows state [] = []
rows state (event ∷ events) = event_row event state ∷ rows (after event state) events

-- .. with what stands before the answer: the record number, the process and the act
pub record NumberedRow : Type 0 where
  pub number : ℕ
  pub process : ℕ
  pub act : List ℕ
  pub row : EventRow

abbrev pub act_text : Event → List ℕ
act_text (begin me (Load x) values) = load_text
act_text (begin me (Validate x) values) = validate_text
act_text (begin me (Store x) values) = store_text
act_text (step me) = step_text

unfoldable pub numbered_rows : ℕ → State → List Event → List NumberedRow
numbered_rows number state [] = []
numbered_rows number state (event ∷ events) =
    record { number = number; process = process_of event; act = act_text event; row = event_row event state }
    ∷ numbered_rows (number + 1) (after event state) events
