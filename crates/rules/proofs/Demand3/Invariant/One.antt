-- Kind `one`: the invariant of a variable and of one process at it, what the others may do, and that they keep it. The header
-- of the machine is the word here. Assumes nothing.
use mathlib.Core.Path.{◌≡◌, sym, ◌∙◌}
use mathlib.Core.Logic.{◌≢◌, ◌⊎◌, inl, inr}
use mathlib.Core.Bool.{true, false}
use mathlib.Core.List.{◌∷◌}
use Prim.Native.Nat.{ℕ, suc, ◌+◌, ◌≤◌}
use native.Mathlib.Omega.{arith}
use lib.Dec.{eqb}
use lib.ListN.{length}
use borrow.Author.Tests.{ne_eqb}
use Rattle.rules.proofs.Demand3.Invariant.Many.{Stays}
use Rattle.rules.proofs.Demand3.Invariant.Since.{Free, free∷}
use Rattle.rules.proofs.Demand3.Machine.{Place, idle, load_reads, validate_reads, store_reads, announces, swaps_header, copies, Sequence, Var}

pub record VarInv₁ (v : Var) : Type 0 where
  pub now : v.header.value ≡ v.seen.atomic.current 0
  pub sum : v.seen.total ≡ v.header.version

pub record Opened₁ (p : ℕ) (v : Var) (s : Sequence) : Type 0 where
  pub old : s.kept ≤ v.header.version
  pub whole : s.kept ≡ v.header.version → s.kept_value ≡ v.header.value
  pub count : length (v.seen.since p) + s.kept ≡ v.header.version
  pub others : Free p (v.seen.since p)
  pub valid : v.seen.atomic.valid p ≡ eqb v.header.version s.kept

abbrev pub Doing₁ : Sequence → Place → Type 0
Doing₁ s idle = Unit {0}
Doing₁ s load_reads = Unit {0}
Doing₁ s validate_reads = s.opened ≡ true
Doing₁ s (store_reads new) = s.opened ≡ true
Doing₁ s (announces new h i) = ⊥
Doing₁ s (swaps_header new h) = ⊥
Doing₁ s (copies a h i ph) = ⊥

pub record Pair₁ (p : ℕ) (v : Var) (row : ℕ → ℕ) (s : Sequence) (pl : Place) : Type 0 where
  pub seq : s.opened ≡ true → Opened₁ p v s
  pub doing : Doing₁ s pl

pub record Moves₁ (p : ℕ) (v v' : Var) : Type 0 where
  pub by : ℕ
  pub else' : by ≢ p
  pub up : v'.header.version ≡ suc v.header.version
  pub since : v'.seen.since p ≡ by ∷ v.seen.since p
  pub valid : v'.seen.atomic.valid p ≡ false

abbrev pub Rely₁ : ℕ → Var → Var → Type 0
Rely₁ p v v' = Stays p v v' ⊎ Moves₁ p v v'

opened₁ : (p : ℕ) (v v' : Var) (s : Sequence) → Rely₁ p v v' → Opened₁ p v s → Opened₁ p v' s
opened₁ p v v' s (inl k) O = record {
  old = rw k.header O.old;
  whole = rw k.header O.whole;
  count = rw (k.header, k.since) O.count;
  others = rw k.since O.others;
  valid = rw (k.header, k.valid) O.valid;
}
opened₁ p v v' s (inr k) O = record {
  old = omega (arith, O.old, k.up);
  whole = λ e. absurd (omega (arith, O.old, k.up));
  count = rw k.since (omega (arith, O.count, k.up));
  others = rw k.since (free∷ k.else' O.others);
  valid = k.valid ∙ sym (ne_eqb v'.header.version s.kept (λ e. omega (arith, e, O.old, k.up)));
}

pub stable₁ : (p : ℕ) (v v' : Var) (s : Sequence) (row : ℕ → ℕ) (pl : Place) → Rely₁ p v v' → Pair₁ p v row s pl → Pair₁ p v' row s pl
stable₁ p v v' s row pl R P = record { seq = λ o. opened₁ p v v' s R (P.seq o); doing = P.doing }
