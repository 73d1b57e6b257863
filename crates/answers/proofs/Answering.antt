-- What answering a record writes. Assumes nothing.
use Prim.Native.Nat.{◌+◌, ◌-◌, ◌≤◌}
use mathlib.Core.Path.{◌≡◌, ap}
use borrow.Author.Tests.{le-leb}
use lib.ListN.{length}
use lib.Seq.{sets}
use Rattle.writing.specs.Put.{SameLent, Puts}
use Rattle.writing.specs.declared.writer.Writer.{Writer}
use Rattle.printout.specs.Row.{row_of}
use Rattle.printout.specs.Writing.{Written, longest_row, put_row}
use Rattle.printout.specs.declared.Row.{Row}

-- with room for a row, the row is written
pub row_put : (row : Row) (out out_after : Writer)
    → ◌≡◌ {A = Written} (out_after.bytes.now, out_after.len) (put_row row out.bytes.now out.len)
    → SameLent out out_after → longest_row ≤ length out.bytes.now - out.len → Puts out (row_of row) out_after
row_put row out out_after e same room =
    let put : ◌≡◌ {A = Written} (out_after.bytes.now, out_after.len) (sets out.bytes.now out.len (row_of row), out.len + length (row_of row)) =
    rw (le-leb longest_row (length out.bytes.now - out.len) room) at e in
    record {
      written = record { list = ap (λ (w : Written). w.0) put; place = ap (λ (w : Written). w.1) put };
      same = same;
    }
