-- A process that a record moved has no sequence open on a variable T or above. Assumes nothing.
use Prim.Native.Nat.{ℕ}
use mathlib.Core.Path.{◌≡◌, refl}
use mathlib.Core.Bool.{Bool, true, false, cond}
use mathlib.Core.List.{List}
use borrow.Author.Tests.{ltb-true}
use lib.Dec.{ltb}
use Rattle.rules.specs.Bounds.{Sized}
use Rattle.rules.specs.GoodForm.{open_fits}
use Rattle.std.specs.Prelude.{Result, Ok, Err}
use Rattle.rules.specs.Refusals.{Check, call_check}
use Rattle.rules.specs.Steps.{process_step}
use Rattle.rules.specs.declared.Call.{Call}
use Rattle.rules.specs.Processes.{refusing}
use Rattle.rules.specs.declared.Process.{Process}
use Rattle.rules.specs.declared.Settings.{Settings}
use Rattle.rules.proofs.GoodForm.Kept.{kept}
use Rattle.rules.specs.InForm.{Sound, Clean}
use Rattle.calls.specs.OneProcess.{begin_process_by, begin_process_rule}
use Rattle.record.specs.declared.entries.Entry.{Entry}
use Rattle.record.specs.declared.entries.Entry.TheVariants.{Begin, Step}
use Rattle.word.specs.declared.Refusal.{Refusal}
use Rattle.word.specs.declared.Refusal.TheVariants.{NoSuchProcess}
use Rattle.answers.specs.Moves.{begins, steps, move_of}

module _ (s : Settings) (z : Sized s) (p : Process) (sound : Sound s p) where
  begin_by_open : (check : Check) (call : Call) (values : List ℕ) → open_fits s (begin_process_by check s p call values).after.opened ≡ true
  begin_by_open (Ok done) call values = sound.form.sequences
  begin_by_open (Err why) call values = sound.form.sequences

  begins_open : (me : ℕ) (call : Call) (values : List ℕ) → open_fits s (begins s me call values p).after.opened ≡ true
  unfolding begin_process_rule
  begins_open me call values = go (ltb me s.n)
    where
      go : (t : Bool) → open_fits s (cond t (begin_process_rule s p call values) (refusing p NoSuchProcess)).after.opened ≡ true
      go true = begin_by_open (call_check s p call values) call values
      go false = sound.form.sequences

  steps_open : (me : ℕ) (words : List ℕ) → Clean s words → open_fits s (steps s me p words).0.after.opened ≡ true
  unfolding process_step
  steps_open me words clean = go (ltb me s.n) refl
    where
      go : (t : Bool) → ltb me s.n ≡ t → open_fits s (cond t (process_step s p me words) (refusing p NoSuchProcess, words)).0.after.opened ≡ true
      go true e =
          (kept s z p me (ltb-true me s.n e) words sound clean p.place sound.form.place sound.shape.header).process.form.sequences
      go false e = sound.form.sequences

  pub move_open : (entry : Result Entry Refusal) (words : List ℕ) → Clean s words → open_fits s (move_of s entry p words).0.after.opened ≡ true
  move_open (Ok (Begin me call values)) words clean = begins_open me call values
  move_open (Ok (Step me)) words clean = steps_open me words clean
  move_open (Err why) words clean = sound.form.sequences
