-- `kept_tags_fit` meets its contract. Assumes nothing.
use mathlib.Core.Path.{ap}
use Prim.Native.Nat.{ℕ}
use borrow.Author.Rules.{rules}
use borrow.Author.Tests.{tests}
use lib.Dec.{ltb}
use lib.ListN.{take}
use Rattle.std.proofs.lemmas.Iterator.{YieldsList-from_slice}
use Rattle.std.proofs.lemmas.List.{get_or-take, length-take}
use Rattle.form.proofs.Each.{list_tried}
use Rattle.form.proofs.within.Within.kept_tags_fit.Goals as goal

pub returns : goal.returns
returns c =
    let fits = λ (tag : ℕ). ltb tag c.tag_limit-limit.result in
    let keep = c.args.keep in
    let t : ℕ = c.args.self.s.t in
    rw (← c.tag_limit-limit.ensures)
    (list_tried fits _ 0 t _ c.all.ensures.ran (YieldsList-from_slice (take t keep) cc) (λ x b q k. search (rules, tests)) (search (rules, length-take))
    (λ k l. ap fits (get_or-take t keep k 0 l)))
