-- What is proved of the rules for demands 1 and 2, beside the contracts: that a refusal leaves everything as found, that good form
-- is kept, and that the ones of a mask are the open count. OneAccess, Schedules and Demand3 have files of their own.
use Rattle.std.specs.Prelude.{◌≡◌, List, ℕ, ◌^◌, ◌≤◌, ◌<◌, length, get_or, Result}
use Rattle.std.specs.Int.Count.{ones}
use Rattle.word.specs.Refusals.{told_number}
use Rattle.rules.specs.Answers.{start_told, open_told}
use Rattle.rules.specs.Entry.{blank_board, set_up_rule, begin_rule, step_rule, open_count_rule}
use Rattle.rules.specs.InForm.{Shaped, InForm}
use Rattle.rules.specs.Processes.{open_count, refusing}
use Rattle.rules.specs.Refusals.{fine, sizes_check, process_check, begin_check, step_check}
use Rattle.rules.specs.Runs.{State, Event, fresh, run}
use Rattle.rules.specs.Sizes.{words_used}
use Rattle.rules.specs.Types.{Board, Call, Settings, Err, Refusal, SettingOutsideSizes}

-- a refusal answers its number and leaves board and words as found; a refused set-up gives its number and nothing else
pub record RefusalsLeaveAll : Type 0 where
  pub set_up : (s : Settings) (words : List ℕ) (r : Refusal) → (set_up_rule s words).0 ≡ Err r
      → set_up_rule s words ≡ (Err r, words)
  pub begin : (board : Board) (me : ℕ) (call : Call) (values words : List ℕ) (r : Refusal)
      → (begin_rule board me call values words).answer ≡ Err r → begin_rule board me call values words ≡ refusing board r
  pub step : (board : Board) (me : ℕ) (words : List ℕ) (r : Refusal)
      → (step_rule board me words).0.answer ≡ Err r → step_rule board me words ≡ (refusing board r, words)

-- a refusal is answered exactly when its check finds it
abbrev pub Exactly : Type 0 → Type 0 → Type 0
Exactly A B = (A → B) × (B → A)

pub record RefusedExactly : Type 0 where
  pub set_up : (s : Settings) (words : List ℕ) (r : Refusal)
      → Exactly ((set_up_rule s words).0 ≡ Err r) (sizes_check s (length words) ≡ Err r)
  pub begin : (board : Board) (me : ℕ) (call : Call) (values words : List ℕ) (r : Refusal)
      → Exactly ((begin_rule board me call values words).answer ≡ Err r) (begin_check board me call values words ≡ Err r)
  pub step : (board : Board) (me : ℕ) (words : List ℕ) (r : Refusal)
      → Exactly ((step_rule board me words).0.answer ≡ Err r) (step_check board me words ≡ Err r)
  pub count : (board : Board) (me : ℕ) (words : List ℕ) (r : Refusal)
      → Exactly (open_count_rule board me words ≡ Err r) (process_check board me words ≡ Err r)

-- the blank board is refused 1 by every entry point
pub record BlankRefused : Type 0 where
  pub begin : (me : ℕ) (call : Call) (values words : List ℕ)
      → begin_rule blank_board me call values words ≡ refusing blank_board SettingOutsideSizes
  pub step : (me : ℕ) (words : List ℕ) → step_rule blank_board me words ≡ (refusing blank_board SettingOutsideSizes, words)
  pub count : (me : ℕ) (words : List ℕ) → open_count_rule blank_board me words ≡ Err SettingOutsideSizes

-- the number alone of what a set-up answers, and an open count, is the one that it tells
pub record NumbersTold : Type 0 where
  pub set_up : (answer : Result Board Refusal) → told_number answer ≡ (start_told answer).0
  pub count : (answer : Result ℕ Refusal) → told_number answer ≡ (open_told answer).0

-- a state that came from a set-up with these settings and words lent
pub record Running (s : Settings) (lent : List ℕ) (state : State) : Type 0 where
  pub settings : state.board.settings ≡ s
  pub form : InForm state.board state.words
  pub long : length state.words ≡ length lent
  pub past : (a : ℕ) → words_used s ≤ a → get_or state.words a 0 ≡ get_or lent a 0

-- good form is kept by every accepted begin and step, and so all along a run from an accepted set-up
pub record GoodFormKept : Type 0 where
  pub begin_keeps : (board : Board) (me : ℕ) (words : List ℕ) → Shaped board words → (call : Call) (values : List ℕ)
      → begin_check board me call values words ≡ fine → InForm (begin_rule board me call values words).after words
  pub step_keeps : (board : Board) (me : ℕ) (words : List ℕ) → Shaped board words
      → step_check board me words ≡ fine → InForm (step_rule board me words).0.after (step_rule board me words).1
  pub always_in_form : (s : Settings) (lent : List ℕ) → sizes_check s (length lent) ≡ fine
      → (events : List Event) → Running s lent (run (fresh s lent) events)

-- of a mask with no bit from k on, the count of ones is the count over the variables
abbrev pub OnesCounted : Type 0
OnesCounted = (mask k : ℕ) → mask < 2 ^ k → ones mask ≡ open_count mask k
