-- Two outcomes that the contract of `put_heading`, or of `put_row`, allows are equal: the writer as a caller sees it. Assumes nothing.
use Rattle.word.proofs.OneOutcome.{one_outcome, Settles}
use Rattle.writing.proofs.Settled.{Seen, seen}
use Rattle.printout.proofs.put_heading.Kinds as put_heading_kinds
use Rattle.printout.proofs.put_heading.Reads as put_heading
use Rattle.printout.proofs.put_row.Kinds as put_row_kinds
use Rattle.printout.proofs.put_row.Reads as put_row

pub put_heading_settles : Settles put_heading_kinds.ps put_heading_kinds.r Seen (λ κs r (out, _). seen out.now) put_heading.Learnt
put_heading_settles κs args r s e f one other =
    let written = one_outcome one.0 other.0 in
    λ i. ((written i).1, (written i).0, one_outcome one.1.name other.1.name i)

pub put_row_settles : Settles put_row_kinds.ps put_row_kinds.r Seen (λ κs r (_, (out, _)). seen out.now) put_row.Learnt
put_row_settles κs args r s e f one other =
    let written = one_outcome one.0 other.0 in
    λ i. ((written i).1, (written i).0, one_outcome one.1.name other.1.name i)
