-- `blank_from` meets its contract. Assumes nothing.
use Prim.Native.Nat.{◌-◌}
use mathlib.Core.Path.{◌≡◌, refl, sym, ◌∙◌}
use Rattle.std.specs.List.{list_all, range_with_len}
use Rattle.std.proofs.Common.{rules, tests, eqb, length}
use Rattle.std.proofs.lemmas.Iterator.{YieldsList-from_range}
use Rattle.std.proofs.lemmas.Iterator.Search.{all_from_yields_List}
use Rattle.fields.specs.Fields.{field_of}
use Rattle.fields.specs.Blanks.{blank_from}
use Rattle.fields.proofs.BlankFields.{blanks_all}
use Rattle.fields.proofs.FieldSpans.{span_bytes}
use Rattle.fields.proofs.parts.blank_from.Goals as goal

pub returns : goal.returns
unfolding blank_from
returns c =
    let s = c.args.bytes.now in
    let k = c.args.from in
    let n : c.all.result ≡ list_all (λ j. eqb (length (field_of s j)) 0) (range_with_len k (7 - k)) =
    all_from_yields_List (λ j. eqb (length (field_of s j)) 0) _ _ c.all.result c.all.ensures.ran (YieldsList-from_range k 7 (7 - k) refl refl) (λ x b q e. search (rules, tests, span_bytes)) in
    n ∙ sym (blanks_all s k (7 - k))
