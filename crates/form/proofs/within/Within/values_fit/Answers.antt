-- `values_fit` meets its contract. Assumes nothing.
use mathlib.Core.Path.{refl}
use borrow.Author.Rules.{rules}
use borrow.Author.Tests.{tests}
use Rattle.std.proofs.lemmas.Iterator.{YieldsList-from_slice}
use Rattle.rules.specs.GoodForm as form
use Rattle.form.proofs.Each.{list_tried}
use Rattle.form.proofs.within.Within.values_fit.Goals as goal

pub returns : goal.returns
unfolding form.values_fit
returns c =
    let fits = form.value_fits c.args.self.s in
    list_tried fits _ 0 4 _ c.all.ensures.ran (YieldsList-from_slice c.args.values cc) (λ x b q k. search (rules, tests)) (search rules) (λ k l. refl)
