-- Every accepted begin and step keeps good form, of the whole board and its words. Assumes nothing.
use mathlib.Core.Path.{◌≡◌, sym, ◌∙◌, subst}
use mathlib.Core.Bool.{true}
use mathlib.Core.List.{List}
use Prim.Native.Nat.{ℕ, ◌≤◌, ◌<◌}
use native.Mathlib.Omega.{arith}
use lib.ListN.{length-set}
use Rattle.rules.specs.Entry.{begin_rule, begin_by, step_rule, step_by}
use Rattle.rules.specs.GoodForm.{process_fits, processes_fit, words_fit, in_good_form}
use Rattle.rules.specs.Processes.{nobody, process_at, put_process}
use Rattle.rules.specs.Refusals.{begin_check, step_check}
use Rattle.rules.specs.Steps.{process_step}
use Rattle.rules.proofs.Refusals.Checked.{step_accepted, begin_accepted}
use Rattle.rules.proofs.GoodForm.FirstPlace.{begins}
use Rattle.rules.proofs.Branches.{after_set}
use Rattle.rules.proofs.GoodForm.Held.{clauses, in_form_lem}
use Rattle.rules.proofs.GoodForm.Kept.{kept}
use Rattle.rules.specs.InForm.{Formed, Shaped, Sound, Clean, InForm}
use Rattle.rules.specs.Types.{Board, Call, Ok, Process}
use Rattle.rules.specs.Refusals.{Check}
use Rattle.rules.proofs.Sizes.Sized.{sized}
use Rattle.rules.proofs.Tests.{and_left, and_right, and_both, all_at, all_of}

module _ (board : Board) (words : List ℕ) (good : in_good_form board words ≡ true) where
  pub words_fit_lem : words_fit board.settings words ≡ true
  unfolding in_good_form
  words_fit_lem = and_right (processes_fit board) _ good

  pub process_fits_lem : (i : ℕ) → i < board.settings.n → process_fits board.settings (process_at board i) ≡ true
  unfolding in_good_form processes_fit
  process_fits_lem i l =
      all_at (λ j. process_fits board.settings (process_at board j)) i board.settings.n
      (and_left (processes_fit board) (words_fit board.settings words) good) l

module _ (board : Board) (words : List ℕ) (h : InForm board words) where
  pub clean_words : Clean board.settings words
  clean_words = record { fits = words_fit_lem board words h.good; bounded = h.shaped.bounded }

  module _ (most : board.settings.n ≤ 16) (me : ℕ) (mine : me < board.settings.n) where
    pub sound_process : Sound board.settings (process_at board me)
    sound_process =
        record { form = clauses _ _ (process_fits_lem board words h.good me mine); shape = h.shaped.each me (omega arith) }

    -- a process in form is put back, and the words are in form
    pub put_back : (p : Process) (after : List ℕ) → Sound board.settings p → Clean board.settings after
        → InForm (put_process board me p) after
    unfolding in_good_form processes_fit
    put_back p after sound clean =
        record {
          good = and_both _ _ (all_of _ board.settings.n fits) clean.fits;
          shaped = record {
            processes = length-set board.processes me p ∙ h.shaped.processes;
            each = λ i l. after_set Formed board.processes me p nobody i (λ q. sound.shape) (h.shaped.each i l);
            bounded = clean.bounded;
          };
        }
      where
        fits : (i : ℕ) → i < board.settings.n → process_fits board.settings (process_at (put_process board me p) i) ≡ true
        fits i l =
            after_set (λ (q : Process). process_fits board.settings q ≡ true) board.processes me p nobody i
            (λ q. in_form_lem _ p sound.form) (process_fits_lem board words h.good i l)

-- an accepted step or begin, whose check found good form, leaves good form
module _ (board : Board) (me : ℕ) (words : List ℕ) (shaped : Shaped board words) where
  pub step_keeps : step_check board me words ≡ Ok tt → InForm (step_rule board me words).0.after (step_rule board me words).1
  unfolding step_rule process_step
  step_keeps e =
      let ok = (step_accepted board me words e).0 in
      let z = sized board.settings ok.sizes.settings in
      let h : InForm board words = record { good = ok.good; shaped = shaped } in
      let sound = sound_process board words h z.n_most me ok.mine in
      let after = kept board.settings z _ me ok.mine words sound (clean_words board words h)
      (process_at board me).place sound.form.place sound.shape.header in
      subst (λ (c : Check). InForm (step_by c board me words).0.after (step_by c board me words).1) (sym e)
      (put_back board words h z.n_most me ok.mine _ _ after.process after.words)

  pub begin_keeps : (call : Call) (values : List ℕ) → begin_check board me call values words ≡ Ok tt
      → InForm (begin_rule board me call values words).after words
  unfolding begin_rule
  begin_keeps call values e =
      let both = begin_accepted board me call values words e in
      let ok = both.0 in
      let z = sized board.settings ok.sizes.settings in
      let h : InForm board words = record { good = ok.good; shaped = shaped } in
      let sound = sound_process board words h z.n_most me ok.mine in
      subst (λ (c : Check). InForm (begin_by c board me call values).after words) (sym e)
      (put_back board words h z.n_most me ok.mine _ words (begins _ _ call values sound both.1) (clean_words board words h))
