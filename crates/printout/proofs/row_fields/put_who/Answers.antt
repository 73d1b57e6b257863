-- `put_who` goes by cases: the bytes of the case are those of the two fields. Assumes nothing.
use Rattle.writing.proofs.Puts.{then}
use Rattle.printout.proofs.row_fields.put_who.Goals as goal

pub returns-in-Process : goal.returns-in-Process
returns-in-Process c = rw c.in-Process.is (then c.put_number.ensures c.put_act.ensures)
