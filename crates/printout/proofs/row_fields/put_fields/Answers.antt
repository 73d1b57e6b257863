-- `put_fields` puts the parts of a row one after the other. Assumes nothing.
use Rattle.writing.proofs.Puts.{then}
use Rattle.printout.proofs.Rows.{row_parts}
use Rattle.printout.proofs.row_fields.put_fields.Goals as goal

pub returns : goal.returns
returns c =
    rw (row_parts c.args.row) at
    (then c.put_decimal.ensures
    (then c.put_who.ensures
    (then c.put_answer.ensures
    (then c.put_optional.ensures c.put_numbers.ensures))))
