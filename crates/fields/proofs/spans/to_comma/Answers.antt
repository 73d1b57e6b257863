-- `to_comma` meets its contract: what the library's iterators answer is what the definition says. Assumes nothing.
use mathlib.Core.Path.{◌∙◌}
use mathlib.Core.Bool.{not}
use Rattle.std.proofs.Common.{rules, tests, eqb}
use Rattle.std.proofs.lemmas.Iterator.{YieldsList-from_slice}
use Rattle.std.proofs.lemmas.Iterator.Consumers.{count_from_yields_List}
use Rattle.std.proofs.lemmas.Iterator.Search.{YieldsList-from_take_while}
use Rattle.std.proofs.lemmas.List.Folds.{length-prefix_len}
use Rattle.fields.proofs.FieldSpans.{to_comma_front}
use Rattle.fields.proofs.spans.to_comma.Goals as goal

pub returns : goal.returns
returns c =
    let s = c.args.rest.now in
    count_from_yields_List c.take_while.result _ c.count.ensures.ran
    (YieldsList-from_take_while _ (λ x. not (eqb x 44)) (YieldsList-from_slice s cc) c.take_while.ensures.closure c.take_while.ensures.done (λ x b q k. search (rules, tests)))
    ∙ (length-prefix_len (λ x. not (eqb x 44)) s ∙ to_comma_front s)
