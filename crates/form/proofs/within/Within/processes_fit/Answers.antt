-- `processes_fit` meets its contract. Assumes nothing.
use mathlib.Core.Path.{ap}
use Prim.Native.Nat.{ℕ}
use borrow.Author.Rules.{rules}
use borrow.Author.Tests.{tests}
use lib.ListN.{take}
use Rattle.std.proofs.lemmas.Iterator.{YieldsList-from_slice}
use Rattle.std.proofs.lemmas.List.{get_or-take, length-take}
use Rattle.rules.specs.GoodForm as form
use Rattle.rules.specs.Processes.{nobody}
use Rattle.form.proofs.Each.{list_tried}
use Rattle.form.proofs.within.Within.processes_fit.Goals as goal

pub returns : goal.returns
unfolding form.processes_fit
returns c =
    let fits = form.process_fits c.args.self.s in
    let processes = c.args.processes in
    let n : ℕ = c.args.self.s.n in
    list_tried fits _ nobody n _ c.all.ensures.ran (YieldsList-from_slice (take n processes) cc) (λ x b q k. search (rules, tests)) (search (rules, length-take))
    (λ k l. ap fits (get_or-take n processes k nobody l))
