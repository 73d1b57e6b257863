-- In good form, an event is what it does to its one process: the checks of the whole board find nothing. Assumes nothing.
use Prim.Native.Nat.{ℕ}
use mathlib.Core.Path.{◌≡◌, sym, ap}
use mathlib.Core.Bool.{true, false}
use mathlib.Core.List.{List}
use borrow.Author.Tests.{ltb-true, ltb-false, le-leb}
use lib.Dec.{ltb}
use Rattle.word.specs.declared.Refusal.TheVariants.{NoSuchProcess}
use Rattle.rules.specs.Bounds.{Sized}
use Rattle.rules.specs.Entry.{begin_rule, step_rule, stepped}
use Rattle.rules.specs.Processes.{process_at, refusing}
use Rattle.rules.specs.Refusals.{process_check, begin_check, step_check}
use Rattle.rules.specs.declared.Answered.{Answered}
use Rattle.rules.specs.declared.Board.{Board}
use Rattle.rules.specs.declared.Call.{Call}
use Rattle.std.specs.Prelude.{Ok, Err}
use Rattle.rules.proofs.Refusals.Checked.{Stands, stands_fine, accepted_fine}
use Rattle.rules.proofs.Refusals.OneProcess.{same_board, step_served}
use Rattle.rules.proofs.Sizes.Sized.{sized}
use Rattle.calls.proofs.Served.{begin_served}
use Rattle.answers.specs.Moves.{begins, steps}
use Rattle.answers.specs.Order.{InOrder}

module _ (board : Board) (words : List ℕ) (o : InOrder board words) where
  stood : Stands board.settings words
  stood = record { settings = o.settings; room = o.room }

  pub all_sized : Sized board.settings
  all_sized = sized board.settings o.settings

  pub one_of : (me : ℕ) → ltb me board.settings.n ≡ true → process_check board me words ≡ Ok tt
  one_of me mine = accepted_fine board me words (record { sizes = stood; good = o.form.good; mine = ltb-true me board.settings.n mine })

  pub none_of : (me : ℕ) → ltb me board.settings.n ≡ false → process_check board me words ≡ Err NoSuchProcess
  unfolding process_check
  none_of me past =
      rw (stands_fine board.settings words stood, o.form.good, le-leb board.settings.n me (ltb-false me board.settings.n past))

  -- a begin
  module _ (call : Call) (values : List ℕ) (me : ℕ) where
    pub begun : ltb me board.settings.n ≡ true
        → (begin_rule board me call values words, words) ≡ stepped board me (begins board.settings me call values (process_at board me), words)
    begun mine = rw mine (ap (λ (a : Answered Board). (a, words)) (begin_served board me call values words (one_of me mine)))

    pub not_begun : ltb me board.settings.n ≡ false
        → (begin_rule board me call values words, words) ≡ stepped board 0 (begins board.settings me call values (process_at board 0), words)
    unfolding begin_rule begin_check
    not_begun past = rw (none_of me past, past) (ap (λ (b : Board). (refusing b NoSuchProcess, words)) (sym (same_board board 0)))

  -- a step
  module _ (me : ℕ) where
    pub took : ltb me board.settings.n ≡ true
        → step_rule board me words ≡ stepped board me (steps board.settings me (process_at board me) words)
    took mine = rw mine (step_served board me words (one_of me mine))

    pub not_took : ltb me board.settings.n ≡ false
        → step_rule board me words ≡ stepped board 0 (steps board.settings me (process_at board 0) words)
    unfolding step_rule step_check
    not_took past = rw (none_of me past, past) (ap (λ (b : Board). (refusing b NoSuchProcess, words)) (sym (same_board board 0)))
