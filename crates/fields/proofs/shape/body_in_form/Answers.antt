-- `body_in_form` meets its contract: at the end each byte was passed. Assumes nothing.
use native.Mathlib.Omega.{arith}
use Rattle.fields.proofs.Splits.{passed_all}
use Rattle.fields.proofs.shape.body_in_form.Goals as goal

pub returns : goal.returns
returns c =
    let l = c.loop-byte in
    let whole = passed_all c.args.inside.now l.byte-index l.found (omega arith) l.invariant.0 l.invariant.1 in
    rw (whole.0, whole.1)
