-- The invariant of `value_of`: the digits that are left, after the value so far, spell the whole.
use Rattle.std.proofs.Common.{◌≡◌, ◌^◌, ◌<◌, drop}
use Rattle.fields.specs.Number.{value_from}
use Rattle.fields.proofs.number.value_of.Given as goal

abbrev pub invariant-loop-digit : goal.invariant-loop-digit
invariant-loop-digit l = (l.value < 2 ^ 64) × (value_from l.value (drop l.digit-index l.digits) ≡ value_from 0 l.digits)
