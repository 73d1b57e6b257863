-- `row_fits` meets its contract. Assumes nothing.
use mathlib.Core.Path.{refl}
use borrow.Author.Rules.{rules}
use borrow.Author.Tests.{tests}
use Rattle.rules.specs.GoodForm as form
use Rattle.form.proofs.Each.{range_tried}
use Rattle.form.proofs.words.Words.row_fits.Goals as goal

pub returns : goal.returns
unfolding form.row_fits
returns c = range_tried _ _ c.all.ensures.ran refl (λ x b q k. search (rules, tests))
