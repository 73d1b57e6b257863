-- Copy at a segment, a step at each moment but the last: it reads the segment, then what is announced, swaps the segment, or
-- reads it again where the swap failed. What it has then is what was stored, and the segment lags no more. Assumes nothing.
use mathlib.Core.Path.{◌≡◌, refl}
use mathlib.Core.Logic.{◌≢◌, inl}
use mathlib.Core.Bool.{Bool, true, false}
use Prim.Native.Nat.{ℕ, suc, ◌≤◌, ◌<◌}
use native.Mathlib.Omega.{arith}
use lib.Dec.{eqb}
use borrow.Author.Tests.{eqb-true, eqb-false}
use Rattle.rules.specs.Figure2.{change}
use Rattle.rules.proofs.Demand3.Change.{change_same, change_all}
use Rattle.rules.proofs.Demand3.Invariant.Kinds.{Fine}
use Rattle.rules.proofs.Demand3.Invariant.Many.{VarInv, PhaseOk, Pair, Rely}
use Rattle.rules.proofs.Demand3.Invariant.OneStep.Leaving.{reseat, still}
use Rattle.rules.proofs.Demand3.Invariant.Stable.{stable}
use Rattle.rules.proofs.Demand3.Machine.{Versioned, stamp, same, Phase, reads_segment, reads_announced, swaps_segment, reads_again, reads_header, Aim, copies, Sequence, Var, goes, on_segment, on_segment_swap}
use Rattle.rules.proofs.Demand3.Same.{same_true, same_false}

-- from one moment of Copy to another at the same segment
recopy : (W p : ℕ) (v : Var) (row : ℕ → ℕ) (s : Sequence) (a : Aim) (h : Versioned) (i : ℕ) (ph ph' : Phase) →
    Pair W p v row s (copies a h i ph) → PhaseOk v h i ph' → Pair W p v row s (copies a h i ph')
recopy W p v row s a h i ph ph' P A = record {
  seq = λ o. reseat W p v s (copies a h i ph) (copies a h i ph') (λ e. e) (λ e. e) (P.seq o);
  lag = P.lag;
  doing = (P.doing.0, A);
}

module _ (W p : ℕ) (v : Var) (rows : ℕ → ℕ → ℕ) (s : Sequence) (I : VarInv W v) where
  pub at_reads_segment : (a : Aim) (h : Versioned) (i : ℕ) → Pair W p v (rows p) s (copies a h i reads_segment) →
      (t : Bool) → eqb (suc (v.segment i).version) h.version ≡ t → Fine W p v rows (on_segment W p v rows s t a h i)
  at_reads_segment a h i P true e = still W p v rows s I (copies a h i (reads_announced (v.segment i)))
      (recopy W p v (rows p) s a h i reads_segment (reads_announced (v.segment i)) P
      (record { prev = eqb-true (suc (v.segment i).version) h.version e; kin = I.kin i P.doing.0.in' }))
  at_reads_segment a h i P false e =
      let l : i < W = P.doing.0.in' in
      let k : h.version ≤ (v.segment i).version = omega (
        arith,
        I.lo i l,
        P.doing.0.old,
        eqb-false
            (suc (v.segment i).version) h.version e,
      ) in
      still W p v rows s I (copies a h i (reads_header (v.segment i).value))
      (recopy W p v (rows p) s a h i reads_segment (reads_header (v.segment i).value) P
      (record { here' = k; read = (v.segment i).version; lo = k; hi = I.hi i l; kin = I.kin i l }))

  pub at_reads_announced :
      ((i : ℕ) → i < W → suc (v.segment i).version ≡ v.header.version → rows v.header.value i ≡ v.stored v.header.version i) →
      (a : Aim) (h : Versioned) (i : ℕ) (y : Versioned) → Pair W p v (rows p) s (copies a h i (reads_announced y)) →
      Fine W p v rows (goes W p v rows s (copies a h i (swaps_segment y (rows h.value i))))
  at_reads_announced told a h i y P = still W p v rows s I (copies a h i (swaps_segment y (rows h.value i)))
      (recopy W p v (rows p) s a h i (reads_announced y) (swaps_segment y (rows h.value i)) P (P.doing.1, sound))
    where
      sound : suc (v.segment i).version ≡ h.version → rows h.value i ≡ v.stored h.version i
      sound e =
          let l : i < W = P.doing.0.in' in
          let k : h.version ≡ v.header.version = omega (arith, I.lo i l, P.doing.0.old) in
          let t : rows v.header.value i ≡ v.stored v.header.version i = told i l (omega (arith, I.lo i l, P.doing.0.old)) in
          cc (P.doing.0.who, I.who)

  pub at_reads_again : (a : Aim) (h : Versioned) (i : ℕ) → Pair W p v (rows p) s (copies a h i reads_again) →
      Fine W p v rows (goes W p v rows s (copies a h i (reads_header (v.segment i).value)))
  at_reads_again a h i P =
      let l : i < W = P.doing.0.in' in
      still W p v rows s I (copies a h i (reads_header (v.segment i).value))
      (recopy W p v (rows p) s a h i reads_again (reads_header (v.segment i).value) P
      (record { here' = P.doing.1; read = (v.segment i).version; lo = P.doing.1; hi = I.hi i l; kin = I.kin i l }))

  pub at_swaps_segment : (a : Aim) (h : Versioned) (i : ℕ) (y : Versioned) (z : ℕ) → Pair W p v (rows p) s (copies a h i (swaps_segment y z)) →
      (t : Bool) → same (v.segment i) y ≡ t → Fine W p v rows (on_segment_swap W p v rows s t a h i z)
  at_swaps_segment a h i y z P false e = still W p v rows s I (copies a h i reads_again) (recopy W p v (rows p) s a h i (swaps_segment y z) reads_again P past)
    where
      l : i < W
      l = P.doing.0.in'

      apart : suc (v.segment i).version ≢ h.version
      apart k =
          let m : (v.segment i).version ≡ y.version = omega (arith, P.doing.1.0.prev) in
          same_false (v.segment i) y e m (cc (I.kin i l, P.doing.1.0.kin))

      past : h.version ≤ (v.segment i).version
      past = omega (arith, I.lo i l, P.doing.0.old, apart)
  at_swaps_segment a h i y z P true e = record { inv = inv'; rely = λ r n. rely' r; pair = pair'; right = tt; counts = tt }
    where
      v' : Var
      v' = record {
        header = v.header;
        segment = change v.segment i (stamp h.version z);
        seen = v.seen;
        stored = v.stored;
        storer = v.storer;
      }

      l : i < W
      l = P.doing.0.in'

      m : suc (v.segment i).version ≡ h.version
      m = omega (arith, (same_true (v.segment i) y e).0, P.doing.1.0.prev)

      k : h.version ≡ v.header.version
      k = omega (arith, m, I.lo i l, P.doing.0.old)

      inv' : VarInv W v'
      inv' = record {
        lo = change_all (λ j w. j < W → v.header.version ≤ suc w.version) v.segment i (stamp h.version z)
            (λ _. omega (arith, k)) (λ j n. I.lo j);
        hi = change_all (λ j w. j < W → w.version ≤ v.header.version) v.segment i (stamp h.version z)
            (λ _. omega (arith, k)) (λ j n. I.hi j);
        kin = change_all (λ j w. j < W → w.value ≡ v.stored w.version j) v.segment i (stamp h.version z)
            (λ _. P.doing.1.1 m) (λ j n. I.kin j);
        who = I.who;
        now = I.now;
        sum = I.sum;
      }

      rely' : (r : ℕ) → Rely W r v v'
      rely' r = record {
        grow = change_all (λ j w. j < W → (v.segment j).version ≤ w.version) v.segment i (stamp h.version z)
            (λ _. omega (arith, m)) (λ j n _. omega arith);
        kept = λ w _. refl;
        names = λ w _. refl;
        owes = refl;
        head = inl (record { header = refl; since = refl; valid = refl });
      }

      pair' : Pair W p v' (rows p) s (copies a h i (reads_header z))
      pair' = recopy W p v' (rows p) s a h i (swaps_segment y z) (reads_header z)
          (stable W p v v' I inv' (rely' p) s (rows p) (copies a h i (swaps_segment y z)) P)
          (record { here' = rw change_same (omega arith); read = h.version; lo = omega arith; hi = P.doing.0.old; kin = P.doing.1.1 m })
