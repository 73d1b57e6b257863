-- `storable` meets its contract. Assumes nothing.
use mathlib.Core.Path.{ap, ◌∙◌}
use mathlib.Core.Bool.{◌&&◌, ◌||◌}
use Prim.Native.Nat.{ℕ}
use native.Mathlib.Omega.{arith}
use borrow.Author.Rules.{rules}
use borrow.Author.Tests.{tests}
use lib.Dec.{ltb, eqb}
use lib.ListN.{get_or}
use Rattle.std.proofs.lemmas.Iterator.{YieldsList-from_slice}
use Rattle.std.proofs.lemmas.Iterator.Consumers.{YieldsList-from_enumerate}
use Rattle.std.proofs.lemmas.List.FromFn.{length-enumerate_from, get_or-enumerate_from}
use Rattle.rules.specs.GoodForm as form
use Rattle.rules.specs.Refusals as refusals
use Rattle.form.proofs.Each.{list_tried}
use Rattle.calls.proofs.refusals.storable.Goals as goal

pub returns : goal.returns
unfolding refusals.storable
returns c =
    let s = c.args.s in
    let values = c.args.values in
    let fits = λ (p : ℕ × ℕ). form.value_fits s p.1 && (ltb p.0 s.w || eqb p.1 0) in
    list_tried fits _ (0, 0) 4 _ c.all.ensures.ran (YieldsList-from_enumerate (YieldsList-from_slice values cc) cc) (λ x b q k. search (rules, tests))
    (length-enumerate_from 0 values ∙ search rules)
    (λ k l. ap fits (get_or-enumerate_from 0 values k (0, 0) (omega arith) ∙ ap (λ (i : ℕ). (i, get_or values k 0)) (omega arith)))
