-- The invariant of `body_in_form`: nothing that was passed is stray, and the commas passed are counted.
use mathlib.Core.Path.{◌≡◌}
use mathlib.Core.Bool.{true, not}
use lib.Dec.{eqb}
use lib.ListN.{take}
use Rattle.std.specs.List.{list_all, count_by}
use Rattle.fields.specs.Form.{stray}
use Rattle.fields.proofs.shape.body_in_form.Given as goal

abbrev pub invariant-loop-byte : goal.invariant-loop-byte
invariant-loop-byte l =
    let passed = take l.byte-index l.inside in
    (list_all (λ x. not (stray x)) passed ≡ true) × (l.found ≡ count_by (λ x. eqb x 44) passed)
