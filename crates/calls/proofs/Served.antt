-- On a board that passes 1 to 4, a begin is that of its one process, laid back. Assumes nothing.
use mathlib.Core.Path.{◌≡◌, refl, sym, ap}
use mathlib.Core.List.{List}
use Prim.Native.Nat.{ℕ}
use Rattle.std.specs.Prelude.{Ok, Err}
use Rattle.rules.specs.Entry.{begin_by, begin_rule, laid_back}
use Rattle.rules.specs.Processes.{process_at, refusing}
use Rattle.rules.specs.Refusals.{Check, process_check, call_check, begin_check}
use Rattle.rules.specs.declared.Board.{Board}
use Rattle.rules.specs.declared.Call.{Call}
use Rattle.rules.proofs.Refusals.OneProcess.{same_board}
use Rattle.calls.specs.OneProcess.{begin_process_by, begin_process_rule}

module _ (board : Board) (me : ℕ) (call : Call) (values words : List ℕ) where
  pub begin_served : process_check board me words ≡ Ok tt
      → begin_rule board me call values words ≡ laid_back board me (begin_process_rule board.settings (process_at board me) call values)
  unfolding begin_rule begin_check begin_process_rule
  begin_served e = rw e (by (call_check board.settings (process_at board me) call values))
    where
      by : (check : Check) → begin_by check board me call values
          ≡ laid_back board me (begin_process_by check board.settings (process_at board me) call values)
      by (Ok done) = refl
      by (Err refusal) = ap (λ (b : Board). refusing b refusal) (sym (same_board board me))
