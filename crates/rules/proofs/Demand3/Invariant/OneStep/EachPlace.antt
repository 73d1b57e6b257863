-- One step keeps the invariant, from whatever place, of either kind; its answer is right, and it counts as a store where Figure
-- 2's SC returned the same. Assumes nothing.
use mathlib.Core.Path.{◌≡◌, refl}
use Prim.Native.Nat.{ℕ, suc, ◌+◌, ◌<◌}
use lib.Dec.{eqb, ltb}
use Rattle.rules.proofs.Demand3.Invariant.Kinds.{VarInvK, PairK, FineK, Fine}
use Rattle.rules.proofs.Demand3.Invariant.Many.{VarInv, Pair}
use Rattle.rules.proofs.Demand3.Invariant.OneStep.Copying.{at_reads_segment, at_reads_announced, at_swaps_segment, at_reads_again}
use Rattle.rules.proofs.Demand3.Invariant.OneStep.Leaving.{still}
use Rattle.rules.proofs.Demand3.Invariant.OneStep.Loading.{at_load_reads, at_validate_reads}
use Rattle.rules.proofs.Demand3.Invariant.OneStep.OneWord.{one_fine}
use Rattle.rules.proofs.Demand3.Invariant.OneStep.SegmentEnd.{at_reads_header}
use Rattle.rules.proofs.Demand3.Invariant.OneStep.Storing.{at_store_reads, at_announces, at_swaps_header}
use Rattle.rules.proofs.Demand3.Machine.{same, Place, idle, load_reads, validate_reads, store_reads, announces, swaps_header, reads_segment, reads_announced, swaps_segment, reads_again, reads_header, load, store, copies, Sequence, Var, rule, acts}
use Rattle.rules.specs.Types.{Kind, One, Many}

module _ (W p : ℕ) (v : Var) (rows : ℕ → ℕ → ℕ) (s : Sequence) (I : VarInv W v) (pos : 0 < W)
    (told : (i : ℕ) → i < W → suc (v.segment i).version ≡ v.header.version → rows v.header.value i ≡ v.stored v.header.version i) where
  many_fine : (pl : Place) → Pair W p v (rows p) s pl → Fine W p v rows (rule W p v rows s pl)
  unfolding rule
  many_fine idle P = still W p v rows s I idle P
  many_fine load_reads P = at_load_reads W p v rows s I pos P
  many_fine validate_reads P = at_validate_reads W p v rows s I pos P
  many_fine (store_reads new) P = at_store_reads W p v rows s I pos new P (eqb v.header.version s.kept) refl
  many_fine (announces new h i) P = at_announces W p v rows s I pos new h i P (ltb (i + 1) W) refl
  many_fine (swaps_header new h) P = at_swaps_header W p v rows s I pos new h P (same v.header h) refl
  many_fine (copies a h i reads_segment) P = at_reads_segment W p v rows s I a h i P (eqb (suc (v.segment i).version) h.version) refl
  many_fine (copies a h i (reads_announced y)) P = at_reads_announced W p v rows s I told a h i y P
  many_fine (copies a h i (swaps_segment y z)) P = at_swaps_segment W p v rows s I a h i y z P (same (v.segment i) y) refl
  many_fine (copies a h i reads_again) P = at_reads_again W p v rows s I a h i P
  many_fine (copies a h i (reads_header y)) P = at_reads_header W p v rows s I a h i y P (same v.header h) refl (ltb (i + 1) W) refl

-- the header's process is at its store, and has announced
told_of : (W q : ℕ) (v : Var) (row : ℕ → ℕ) (s : Sequence) (pl : Place) → Pair W q v row s pl → v.header.value ≡ q →
    (i : ℕ) → i < W → suc (v.segment i).version ≡ v.header.version → row i ≡ v.stored v.header.version i
told_of W q v row s idle P m i l e = absurd (P.lag i l m e)
told_of W q v row s load_reads P m i l e = absurd (P.lag i l m e)
told_of W q v row s validate_reads P m i l e = absurd (P.lag i l m e)
told_of W q v row s (store_reads new) P m i l e = absurd (P.lag i l m e)
told_of W q v row s (announces new h j) P m i l e = absurd (P.lag i l m e)
told_of W q v row s (swaps_header new h) P m i l e = absurd (P.lag i l m e)
told_of W q v row s (copies (load g) h j ph) P m i l e = absurd (P.lag i l m e)
told_of W q v row s (copies store h j ph) P m i l e = rw (← (P.lag i l m e)) (P.doing.0.aim.told i l)

pub fine_k : (k : Kind) (W : ℕ) → 0 < W → (p : ℕ) (v : Var) (rows : ℕ → ℕ → ℕ) (ss : ℕ → Sequence) (pls : ℕ → Place) → VarInvK k W v →
    ((q : ℕ) → PairK k W q v (rows q) (ss q) (pls q)) → FineK k W p v (acts k W p v rows (ss p) (pls p))
fine_k One W pos p v rows ss pls I all = one_fine W p v rows (ss p) I (pls p) (all p)
fine_k Many W pos p v rows ss pls I all =
    let q : ℕ = v.header.value in
    many_fine W p v rows (ss p) I pos (told_of W q v (rows q) (ss q) (pls q) (all q) refl) (pls p) (all p)
