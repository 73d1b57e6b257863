-- Two parts of a record that a contract allows are equal: their bytes, and where they lie in memory. Assumes nothing.
use mathlib.Core.Path.{◌≡◌}
use mathlib.Core.List.{List}
use Prim.Native.Nat.{ℕ}
use denote.Ref.{Bor}
use Rattle.word.proofs.OneOutcome.{one_outcome, Settles}
use Rattle.fields.specs.Spans.{PartAt}
use Rattle.fields.specs.declared.spans.Span.{Span}
use Rattle.fields.proofs.parts.field.Kinds as field_kinds
use Rattle.fields.proofs.parts.field.Reads as field
use Rattle.fields.proofs.shape.body.Kinds as body_kinds
use Rattle.fields.proofs.shape.body.Reads as body

one_part : {span : Span} {whole part other_part : Bor (List ℕ)} → PartAt span whole part → PartAt span whole other_part
    → ◌≡◌ {A = List ℕ × (ℕ × ℕ)} (part.now, part.ref_ptr) (other_part.now, other_part.ref_ptr)
one_part one other =
    λ i. (one_outcome one.bytes other.bytes i, (one_outcome one.block other.block i, one_outcome one.offset other.offset i))

pub field_settles : Settles field_kinds.ps field_kinds.r (List ℕ × (ℕ × ℕ)) (λ κs r e. (r.now, r.ref_ptr)) field.Learnt
field_settles κs args r s e f one other = one_part one other

pub body_settles : Settles body_kinds.ps body_kinds.r (List ℕ × (ℕ × ℕ)) (λ κs r e. (r.now, r.ref_ptr)) body.Learnt
body_settles κs args r s e f one other = one_part one other
