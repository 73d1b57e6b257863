-- Two outcomes that the contract of an address allows are equal; its bound is a fact besides. Assumes nothing.
use Prim.Native.Nat.{ℕ}
use Rattle.word.proofs.OneOutcome.{one_outcome, Settles}
use Rattle.process.proofs.addresses.header_at.Kinds as header_at_kinds
use Rattle.process.proofs.addresses.header_at.Reads as header_at
use Rattle.process.proofs.addresses.segment_at.Kinds as segment_at_kinds
use Rattle.process.proofs.addresses.segment_at.Reads as segment_at
use Rattle.process.proofs.addresses.announce_at.Kinds as announce_at_kinds
use Rattle.process.proofs.addresses.announce_at.Reads as announce_at

pub header_at_settles : Settles header_at_kinds.ps header_at_kinds.r ℕ (λ κs r e. r) header_at.Learnt
header_at_settles κs args r s e f one other = one_outcome one.0 other.0

pub segment_at_settles : Settles segment_at_kinds.ps segment_at_kinds.r ℕ (λ κs r e. r) segment_at.Learnt
segment_at_settles κs args r s e f one other = one_outcome one.0 other.0

pub announce_at_settles : Settles announce_at_kinds.ps announce_at_kinds.r ℕ (λ κs r e. r) announce_at.Learnt
announce_at_settles κs args r s e f one other = one_outcome one.0 other.0
