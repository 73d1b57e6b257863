-- Two outcomes that the contract of a writer allows are equal: how many bytes are written, all lent bytes, and that it still has
-- those that were lent to it (`ghost_name` tells them from others). Assumes nothing.
use mathlib.Core.Path.{◌≡◌}
use mathlib.Core.List.{List}
use Prim.Native.Nat.{ℕ}
use Rattle.word.proofs.OneOutcome.{one_outcome, Settles}
use Rattle.writing.specs.Put.{Puts}
use Rattle.writing.specs.declared.writer.Writer.{Writer}
use Rattle.writing.proofs.writer.Writer.put.Kinds as put_kinds
use Rattle.writing.proofs.writer.Writer.put.Reads as put
use Rattle.writing.proofs.writer.Writer.put_decimal.Kinds as put_decimal_kinds
use Rattle.writing.proofs.writer.Writer.put_decimal.Reads as put_decimal
use Rattle.writing.proofs.writer.Writer.put_number.Kinds as put_number_kinds
use Rattle.writing.proofs.writer.Writer.put_number.Reads as put_number

-- what a caller sees of a writer
abbrev pub Seen : Type 0
Seen = ℕ × List ℕ × ℕ

abbrev pub seen : Writer → Seen
seen out = (out.len, out.bytes.now, out.bytes.ghost_name)

pub one_put : {before : Writer} {bytes : List ℕ} {after other : Writer} → Puts before bytes after → Puts before bytes other
    → ◌≡◌ {A = Seen} (seen after) (seen other)
one_put one two =
    λ i. (
      one_outcome one.written.place two.written.place i,
      one_outcome one.written.list two.written.list i,
      one_outcome one.same.name two.same.name i,
    )

pub put_settles : Settles put_kinds.ps put_kinds.r Seen (λ κs r (out, _). seen out.now) put.Learnt
put_settles κs args r s e f one other = one_put one other

pub put_decimal_settles :
    Settles put_decimal_kinds.ps put_decimal_kinds.r Seen (λ κs r (out, _). seen out.now) put_decimal.Learnt
put_decimal_settles κs args r s e f one other = one_put one other

pub put_number_settles :
    Settles put_number_kinds.ps put_number_kinds.r Seen (λ κs r (out, _). seen out.now) put_number.Learnt
put_number_settles κs args r s e f one other = one_put one other
