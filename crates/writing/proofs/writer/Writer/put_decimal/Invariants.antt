-- `put_decimal` puts the last digit of what is left a turn, each in its place: the digits left to put, put before those that
-- were, give the same list at every turn.
use mathlib.Core.Path.{◌≡◌}
use Prim.Native.Nat.{◌-◌}
use lib.Seq.{sets}
use Rattle.fields.specs.Decimal.{decimal}
use Rattle.writing.proofs.Digits.{last_digits}
use Rattle.writing.proofs.writer.Writer.put_decimal.Given as goal

abbrev pub invariant-loop-i : goal.invariant-loop-i
invariant-loop-i l =
    record {
      put : sets l.self.bytes.now l.self.len (last_digits (l.i - l.self.len) l.left) ≡ sets l.initial.self.bytes.now l.initial.self.len (decimal l.x);
      place : l.self.len ≡ l.initial.self.len;
      same_bytes : l.self.bytes.ghost_name ≡ l.initial.self.bytes.ghost_name;
    }
