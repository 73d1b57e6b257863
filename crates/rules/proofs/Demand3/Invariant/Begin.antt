-- A begin keeps the invariant, of either kind; and a process past the first step of its load has its sequence open. Assumes nothing.
use mathlib.Core.Path.{◌≡◌, refl, sym}
use mathlib.Core.Logic.{◌≢◌, inl}
use mathlib.Core.Bool.{Bool, true, false}
use Prim.Native.Nat.{ℕ, ◌≤◌}
use native.Mathlib.Omega.{arith}
use lib.ListN.{length}
use Rattle.rules.specs.Figure2.{nothing}
use Rattle.rules.specs.Types.{Call, Load, Validate, Store, Kind, One, Many}
use Rattle.rules.proofs.Tests.{never}
use Rattle.rules.proofs.Demand3.Invariant.Kinds.{VarInvK, PairK, RelyK}
use Rattle.rules.proofs.Demand3.Invariant.Many.{storing, Storing, Doing, Pair}
use Rattle.rules.proofs.Demand3.Invariant.One.{Doing₁, Pair₁}
use Rattle.rules.proofs.Demand3.Invariant.OneStep.Leaving.{reseat, owing_inv, owing_rely}
use Rattle.rules.proofs.Demand3.Machine.{Versioned, Place, idle, load_reads, validate_reads, store_reads, announces, swaps_header, copies, Sequence, Var, anew}

-- an idle process asks nothing of its row
pub idle_row : (k : Kind) (W : ℕ) (p : ℕ) (v : Var) (row row' : ℕ → ℕ) (s : Sequence) → PairK k W p v row s idle → PairK k W p v row' s idle
idle_row One W p v row row' s P = record { seq = P.seq; doing = tt }
idle_row Many W p v row row' s P = record { seq = P.seq; lag = P.lag; doing = tt }

-- the first place of a call, with the new values of a store
abbrev pub first_of : Call → (ℕ → ℕ) → Place
first_of (Load x) new = load_reads
first_of (Validate x) new = validate_reads
first_of (Store x) new = store_reads new

-- a validate or a store needs an open sequence
abbrev pub Has : Call → Sequence → Type 0
Has (Load x) s = Unit {0}
Has (Validate x) s = s.opened ≡ true
Has (Store x) s = s.opened ≡ true

begin₁ : (p : ℕ) (v : Var) (row : ℕ → ℕ) (s : Sequence) → Pair₁ p v row s idle → (c : Call) (new : ℕ → ℕ) → Has c s → Pair₁ p v row s (first_of c new)
begin₁ p v row s P (Load x) new e = record { seq = P.seq; doing = tt }
begin₁ p v row s P (Validate x) new e = record { seq = P.seq; doing = e }
begin₁ p v row s P (Store x) new e = record { seq = P.seq; doing = e }

module _ (W p : ℕ) (v : Var) (row : ℕ → ℕ) (s : Sequence) (P : Pair W p v row s idle) where
  plain : (pl : Place) → storing pl ≡ false → ((w : Versioned) → Storing w idle → Storing w pl) → Doing W p v row s pl → Pair W p v row s pl
  plain pl t q d = record {
    seq = λ o. reseat W p v s idle pl (λ _. refl) (λ _. refl) (P.seq o);
    lag = λ i b m k. q v.header (P.lag i b m k);
    doing = d;
  }

  begin_w : (c : Call) (new : ℕ → ℕ) → Has c s → Pair W p v row s (first_of c new)
  begin_w (Load x) new e = plain load_reads refl (λ w b. b) tt
  begin_w (Validate x) new e = plain validate_reads refl (λ w b. b) e
  begin_w (Store x) new e = plain (store_reads new) refl (λ w b. b) e

pub begin_k : (k : Kind) (W : ℕ) (p : ℕ) (v : Var) (row : ℕ → ℕ) (s : Sequence) → PairK k W p v row s idle →
    (c : Call) (new : ℕ → ℕ) → Has c s → PairK k W p v row s (first_of c new)
begin_k One W p v row s P = begin₁ p v row s P
begin_k Many W p v row s P = begin_w W p v row s P

-- past the first step of a load, or in a validate or a store
abbrev pub past : Place → Bool
past idle = false
past load_reads = false
past validate_reads = true
past (store_reads new) = true
past (announces new h i) = true
past (swaps_header new h) = true
past (copies a h i ph) = true

-- a process past its first step has its sequence open
open₁ : (p : ℕ) (v : Var) (row : ℕ → ℕ) (s : Sequence) (pl : Place) → Doing₁ s pl → past pl ≡ true → s.opened ≡ true
open₁ p v row s idle D e = never (sym e)
open₁ p v row s load_reads D e = never (sym e)
open₁ p v row s validate_reads D e = D
open₁ p v row s (store_reads new) D e = D
open₁ p v row s (announces new h i) D e = absurd D
open₁ p v row s (swaps_header new h) D e = absurd D
open₁ p v row s (copies a h i ph) D e = absurd D

open_w : (W p : ℕ) (v : Var) (row : ℕ → ℕ) (s : Sequence) (pl : Place) → Doing W p v row s pl → past pl ≡ true → s.opened ≡ true
open_w W p v row s idle D e = never (sym e)
open_w W p v row s load_reads D e = never (sym e)
open_w W p v row s validate_reads D e = D
open_w W p v row s (store_reads new) D e = D
open_w W p v row s (announces new h i) D e = D.1.open'
open_w W p v row s (swaps_header new h) D e = D.open'
open_w W p v row s (copies a h i ph) D e = D.0.open'

pub few_k : (k : Kind) (W : ℕ) (p : ℕ) (v : Var) (row : ℕ → ℕ) (s : Sequence) (pl : Place) → VarInvK k W v → PairK k W p v row s pl →
    past pl ≡ true → length (v.seen.since p) ≤ v.seen.total
few_k One W p v row s pl I P e = omega (arith, (P.seq (open₁ p v row s pl P.doing e)).count, I.sum)
few_k Many W p v row s pl I P e = omega (arith, (P.seq (open_w W p v row s pl P.doing e)).count, I.sum)

-- a begin changes only what is due to its process
pub anew_inv : (k : Kind) (W : ℕ) (p : ℕ) (v : Var) → VarInvK k W v → VarInvK k W (anew p v)
anew_inv One W p v I = record { now = I.now; sum = I.sum }
anew_inv Many W p v I = owing_inv W p v nothing I

pub anew_rely : (k : Kind) (W : ℕ) (p : ℕ) (v : Var) (r : ℕ) → r ≢ p → RelyK k W r v (anew p v)
anew_rely One W p v r n = inl (record { header = refl; since = refl; valid = refl })
anew_rely Many W p v r n = owing_rely W p v nothing r n

pub anew_idle : (k : Kind) (W : ℕ) (p : ℕ) (v : Var) (row : ℕ → ℕ) (s : Sequence) → PairK k W p v row s idle → PairK k W p (anew p v) row s idle
anew_idle One W p v row s P = record {
  seq = λ o. record { old = (P.seq o).old; whole = (P.seq o).whole; count = (P.seq o).count; others = (P.seq o).others; valid = (P.seq o).valid };
  doing = tt;
}
anew_idle Many W p v row s P = record {
  seq = λ o. record { old = (P.seq o).old; full = (P.seq o).full; count = (P.seq o).count; last = (P.seq o).last; others = (P.seq o).others; valid = (P.seq o).valid };
  lag = P.lag;
  doing = tt;
}
