-- Good form holds after any events, begins and steps in any order, refused ones included, from an accepted set-up: by
-- recursion on the events. Assumes nothing.
use mathlib.Core.Path.{◌≡◌, refl, sym, ◌∙◌, subst}
use mathlib.Core.List.{List, [], ◌∷◌}
use Prim.Native.Nat.{ℕ, ◌≤◌}
use lib.ListN.{length}
use Rattle.rules.specs.Entry.{begin_rule, step_rule}
use Rattle.rules.specs.Refusals.{sizes_check, begin_check, step_check}
use Rattle.rules.specs.Runs.{State, Event, begin, step, after, given, fresh, run}
use Rattle.rules.specs.Sizes.{words_used}
use Rattle.rules.specs.Statements.{Running}
use Rattle.rules.proofs.Refusals.Checked.{stands}
use Rattle.rules.proofs.GoodForm.Fresh.{set_up_accepted, fresh_in_form, fresh_length, fresh_past}
use Rattle.rules.specs.InForm.{InForm}
use Rattle.rules.specs.Types.{Call, Ok, Err, Result, Board, Refusal, Settings}
use Rattle.rules.specs.Refusals.{Check}
use Rattle.rules.proofs.GoodForm.Keeps.{begin_keeps, step_keeps}
use Rattle.rules.proofs.Changes.Leaves.{begin_settings, step_settings, step_length, step_past}
use Rattle.rules.proofs.Refusals.Refusing.{begin_refused, step_refused}
use Rattle.rules.proofs.Sizes.Sized.{sized}

-- any begin or step, accepted or refused, keeps form
pub begin_in_form : (me : ℕ) (call : Call) (values : List ℕ) (state : State) → InForm state.board state.words
    → InForm (begin_rule state.board me call values state.words).after state.words
begin_in_form me call values state h = go (begin_check state.board me call values state.words) refl
  where
    go : (c : Check) → begin_check state.board me call values state.words ≡ c
        → InForm (begin_rule state.board me call values state.words).after state.words
    go (Ok done) e = begin_keeps state.board me state.words h.shaped call values e
    go (Err r) e = rw (begin_refused state.board me call values state.words r e) h

pub step_in_form : (me : ℕ) (state : State) → InForm state.board state.words
    → InForm (step_rule state.board me state.words).0.after (step_rule state.board me state.words).1
step_in_form me state h = go (step_check state.board me state.words) refl
  where
    go : (c : Check) → step_check state.board me state.words ≡ c
        → InForm (step_rule state.board me state.words).0.after (step_rule state.board me state.words).1
    go (Ok done) e = step_keeps state.board me state.words h.shaped e
    go (Err r) e = rw (step_refused state.board me state.words r e) h

module _ (s : Settings) (lent : List ℕ) where
  pub runs_on : (event : Event) (state : State) → Running s lent state → Running s lent (after event state)
  runs_on (begin me call values) state h =
      record {
        settings = begin_settings state.board me state.words call values ∙ h.settings;
        form = begin_in_form me call values state h.form;
        long = h.long;
        past = h.past;
      }
  runs_on (step me) state h =
      let used : (a : ℕ) → words_used s ≤ a → words_used state.board.settings ≤ a =
      λ a l. subst (λ (z : Settings). words_used z ≤ a) (sym h.settings) l in
      record {
        settings = step_settings state.board me state.words ∙ h.settings;
        form = step_in_form me state h.form;
        long = step_length state.board me state.words ∙ h.long;
        past = λ a l. step_past state.board me state.words a (used a l) ∙ h.past a l;
      }

  module _ (ready : sizes_check s (length lent) ≡ Ok tt) where
    starts : Running s lent (fresh s lent)
    starts =
        let sizes = stands s lent ready in
        subst (λ (r : Result Board Refusal × List ℕ). Running s lent (given r))
        (sym (set_up_accepted s lent ready))
        (record {
          settings = refl;
          form = fresh_in_form s lent (sized s sizes.settings);
          long = fresh_length s lent sizes.room;
          past = fresh_past s lent;
        })

    pub always_in_form : (events : List Event) → Running s lent (run (fresh s lent) events)
    unfolding run
    always_in_form [] = starts
    always_in_form (event ∷ events) = runs_on event (run (fresh s lent) events) (always_in_form events)
