-- A run that goes on is in order: its settings stand, the words used are lent, and the board is in good form.
use Rattle.std.specs.Prelude.{ℕ, ◌≤◌, ◌≡◌, ⊤, true, List, length}
use Rattle.rules.specs.Sizes.{settings_fit, words_used}
use Rattle.rules.specs.declared.Board.{Board}
use Rattle.rules.specs.InForm.{InForm}
use Rattle.answers.specs.declared.Stage.{Stage}
use Rattle.answers.specs.declared.Stage.TheVariants.{Waiting, Running, Over}

pub record InOrder (board : Board) (words : List ℕ) : Type 0 where
  pub settings : settings_fit board.settings ≡ true
  pub room : words_used board.settings ≤ length words
  pub form : InForm board words

-- nothing is asked of a run that waits or is over
abbrev pub OrderIn : Stage → List ℕ → Type 0
OrderIn Waiting words = ⊤
OrderIn (Running board) words = InOrder board words
OrderIn Over words = ⊤
