-- `answer` meets its contract: a process that was moved has its sequences in range, and its row is put. Assumes nothing.
use mathlib.Core.Path.{◌≡◌, sym, ap, ◌∙◌, subst}
use mathlib.Core.Bool.{true}
use Rattle.rules.specs.Figure4.{Step}
use Rattle.rules.specs.GoodForm.{open_fits}
use Rattle.writing.specs.Put.{Puts}
use Rattle.printout.specs.Row.{row_of}
use Rattle.printout.specs.declared.Row.{Row}
use Rattle.answers.specs.Moves.{row_by}
use Rattle.answers.proofs.Answering.{row_put}
use Rattle.answers.proofs.OpenAfter.{move_open}
use Rattle.answers.proofs.answer.Goals as goal

pub row_by-requires : goal.row_by-requires
row_by-requires c =
    let a = c.args in
    subst (λ (x : Step). open_fits a.s x.0.after.opened ≡ true) (sym c.moves-moved.ensures)
    (move_open a.s c.requires.0 a.p c.requires.2 a.entry a.mem.now c.requires.3)

pub returns : goal.returns
returns c =
    let a = c.args in
    let moved = c.moves-moved.ensures in
    record {
      process = ap (λ (m : Step). m.0.after) moved;
      memory = ap (λ (m : Step). m.1) moved;
      row = subst (λ (row : Row). Puts a.out.now (row_of row) c.put_row.new.out)
          (c.row_by.ensures ∙ ap (λ (m : Step). row_by a.number a.s a.entry m.0) moved)
          (row_put _ _ _ c.put_row.ensures.written c.put_row.ensures.same c.requires.4);
    }
