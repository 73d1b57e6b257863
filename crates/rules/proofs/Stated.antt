-- What specs/Statements.antt states, proved: each from the lemma that shows it. Assumes nothing.
use mathlib.Core.Path.{ap}
use mathlib.Core.List.{[], ◌∷◌}
use Prim.Native.Nat.{ℕ}
use Rattle.word.proofs.Packing.{number_told}
use Rattle.rules.specs.Statements.{RefusalsLeaveAll, RefusedExactly, BlankRefused, NumbersTold, GoodFormKept, OnesCounted}
use Rattle.rules.specs.Types.{Answered, Board}
use Rattle.rules.proofs.GoodForm.Keeps.{begin_keeps, step_keeps}
use Rattle.rules.proofs.GoodForm.Runs.{always_in_form}
use Rattle.rules.proofs.Refusals.Refusing as refusing
use Rattle.rules.proofs.Sequences.Counts.{counted}

pub refusals_leave_all : RefusalsLeaveAll
refusals_leave_all =
    record {
      set_up = λ s words r e. refusing.set_up_refused_lem s words r (refusing.set_up_refuses s words r e);
      begin = λ board me call values words r e.
          refusing.begin_refused board me call values words r (refusing.begin_refuses board me call values words r e);
      step = λ board me words r e. refusing.step_refused board me words r (refusing.step_refuses board me words r e);
    }

pub refused_exactly : RefusedExactly
refused_exactly =
    record {
      set_up = λ s words r. (
        refusing.set_up_refuses s words r,
        λ e. ap (λ a. a.0) (refusing.set_up_refused_lem s words r e),
      );
      begin = λ board me call values words r. (
        refusing.begin_refuses board me call values words r,
        λ e. ap (λ (a : Answered Board). a.answer) (refusing.begin_refused board me call values words r e),
      );
      step = λ board me words r. (
        refusing.step_refuses board me words r,
        λ e. ap (λ a. a.0.answer) (refusing.step_refused board me words r e),
      );
      count = λ board me words r. (refusing.count_refuses board me words r, refusing.count_refused board me words r);
    }

pub blank_refused : BlankRefused
blank_refused =
    record {
      begin = λ me call values words. refusing.blank_begin me words call values;
      step = refusing.blank_step;
      count = refusing.blank_count;
    }

pub numbers_told : NumbersTold
numbers_told = record { set_up = number_told.any Board (λ board. []); count = number_told.any ℕ (λ count. count ∷ []) }

pub good_form_kept : GoodFormKept
good_form_kept = record { begin_keeps = begin_keeps; step_keeps = step_keeps; always_in_form = always_in_form }

pub ones_counted : OnesCounted
ones_counted = counted
