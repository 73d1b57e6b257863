-- The invariant of `read_values`: the first i values are read.
use Rattle.std.proofs.Common.{◌≡◌, length, Some}
use Rattle.record.specs.Entries.{values_read}
use Rattle.record.proofs.entries.read_values.Given as goal

abbrev pub invariant-loop-i : goal.invariant-loop-i
invariant-loop-i l = (length l.values ≡ 4) × (values_read l.bytes l.i ≡ Some l.values)
