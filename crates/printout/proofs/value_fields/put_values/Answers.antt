-- `put_values` puts the four value fields one after the other, and the line's end. Assumes nothing.
use Rattle.writing.proofs.Puts.{then}
use Rattle.printout.proofs.value_fields.put_values.Goals as goal

pub returns : goal.returns
returns c =
    then c.put_value.ensures
    (then c.put_value-2.ensures
    (then c.put_value-3.ensures
    (then c.put_value-4.ensures c.put.ensures)))
