-- Copy's last step at a segment, which reads the header again. If it is the same, Copy goes on at the next segment or is
-- through; if not, it is cut short. A load's values are those that Figure 2's load returned, or its witness is the last that
-- stored; a store answers yes. Assumes nothing.
use mathlib.Core.Path.{◌≡◌, ap, sym}
use mathlib.Core.Logic.{◌≢◌}
use mathlib.Core.Bool.{Bool, true, false}
use Prim.Native.Nat.{ℕ, ◌+◌, ◌≤◌, ◌<◌}
use native.Mathlib.Omega.{arith}
use lib.Dec.{ltb}
use borrow.Author.Tests.{ltb-true, ltb-false}
use Rattle.rules.specs.Figure2.{change}
use Rattle.rules.proofs.Tests.{never}
use Rattle.rules.proofs.Demand3.Change.{change_all, each}
use Rattle.rules.proofs.Demand3.Invariant.Kinds.{Fine}
use Rattle.rules.proofs.Demand3.Invariant.Many.{VarInv, Opened, Checked, Loads, Copying, Pair}
use Rattle.rules.proofs.Demand3.Invariant.OneStep.Leaving.{untouched, reseat, still, closed}
use Rattle.rules.proofs.Demand3.Invariant.Since.{empty, first}
use Rattle.rules.proofs.Demand3.Machine.{Versioned, same, idle, reads_segment, reads_header, Aim, load, store, copies, gather, Sequence, Var, goes, through, cut_short, on_header}
use Rattle.rules.proofs.Demand3.Same.{same_true, same_false}

module _ (W p : ℕ) (v : Var) (rows : ℕ → ℕ → ℕ) (s : Sequence) (I : VarInv W v) where
  -- the header is read again at the end of a segment
  module _ (h : Versioned) (i : ℕ) (y : ℕ) (C : Checked v h i y) where
    val : v.header.version ≡ h.version → y ≡ v.stored h.version i
    val e = let k : C.read ≡ h.version = omega (arith, C.lo, C.hi) in cc C.kin

    further : ((j : ℕ) → j < i → h.version ≤ (v.segment j).version) → (j : ℕ) → j < (i + 1) → h.version ≤ (v.segment j).version
    further d = each (λ j. j < (i + 1) → h.version ≤ (v.segment j).version) i (λ _. C.here') (λ j n l. d j (omega (arith, n)))

    gathered : (g : ℕ → ℕ) → v.header.version ≡ h.version → ((j : ℕ) → j < i → g j ≡ v.stored h.version j) →
        (j : ℕ) → j < (i + 1) → change g i y j ≡ v.stored h.version j
    gathered g e d = change_all (λ j b. j < (i + 1) → b ≡ v.stored h.version j) g i y (λ _. val e) (λ j n l. d j (omega (arith, n)))

  -- a load is answered: its sequence stays open, and no segment lags behind it
  load_ends : (g : ℕ → ℕ) (h : Versioned) (i : ℕ) (y : ℕ) → Pair W p v (rows p) s (copies (load g) h i (reads_header y)) →
      ((j : ℕ) → j < W → s.kept ≤ (v.segment j).version) → Pair W p v (rows p) s idle
  load_ends g h i y P none_lags =
      let O : Opened W p v s (copies (load g) h i (reads_header y)) = P.seq P.doing.0.open' in
      record {
        seq = λ o. record {
          old = O.old;
          full = λ _. none_lags;
          count = O.count;
          last = O.last;
          others = O.others;
          valid = O.valid;
        };
        lag = P.lag;
        doing = tt;
      }

  at_through : (a : Aim) (h : Versioned) (i : ℕ) (y : ℕ) → Pair W p v (rows p) s (copies a h i (reads_header y)) →
      v.header.version ≡ h.version → W ≤ i + 1 →
      Fine W p v rows (through W p v rows s (gather a i y))
  at_through (load g) h i y P e w =
      let D : Copying W p v (rows p) s (load g) h i = P.doing.0 in
      let A : Loads p v s h i g = D.aim in
      let O : Opened W p v s (copies (load g) h i (reads_header y)) = P.seq D.open' in
      record {
        inv = I;
        rely = λ r n. untouched W r v;
        pair = load_ends g h i y P (λ j l. omega (arith, further h i y P.doing.1 D.done j (omega arith), A.from));
        counts = tt;
        right = (
          empty (v.seen.since p) (omega (arith, O.count, A.from)),
          (v.stored h.version, A.due, λ j l. gathered h i y P.doing.1 g e A.got j (omega arith)),
        );
      }
  at_through store h i y P e w = record {
    inv = I;
    rely = λ r n. untouched W r v;
    pair = record {
      seq = closed W p v s;
      lag = λ j l m k. omega (arith, further h i y P.doing.1 P.doing.0.done j (omega arith));
      doing = tt;
    };
    right = (P.doing.0.aim.due, never);
    counts = tt;
  }

  at_cut_short : (a : Aim) (h : Versioned) (i : ℕ) (y : ℕ) → Pair W p v (rows p) s (copies a h i (reads_header y)) → same v.header h ≡ false →
      Fine W p v rows (cut_short W p v rows s a)
  at_cut_short (load g) h i y P e =
      let D : Copying W p v (rows p) s (load g) h i = P.doing.0 in
      let A : Loads p v s h i g = D.aim in
      let O : Opened W p v s (copies (load g) h i (reads_header y)) = P.seq D.open' in
      let n : v.header.version ≢ h.version = λ k. same_false v.header h e k (cc (I.who, D.who)) in
      record {
        inv = I;
        rely = λ r n. untouched W r v;
        pair = load_ends g h i y P (λ j l. omega (arith, I.lo j l, A.from, D.old, n));
        counts = tt;
        right = first v.header.value (v.seen.since p) O.last (omega (arith, O.count, A.from, D.old, n));
      }
  at_cut_short store h i y P e = record {
    inv = I;
    rely = λ r n. untouched W r v;
    pair = record {
      seq = closed W p v s;
      lag = λ j l m k. same_false v.header h e (ap (λ (w : Versioned). w.version) (sym (P.lag j l m k)))
          (ap (λ (w : Versioned). w.value) (sym (P.lag j l m k)));
      doing = tt;
    };
    right = (P.doing.0.aim.due, never);
    counts = tt;
  }

  at_next : (a : Aim) (h : Versioned) (i : ℕ) (y : ℕ) → Pair W p v (rows p) s (copies a h i (reads_header y)) →
      v.header.version ≡ h.version → i + 1 < W →
      Fine W p v rows (goes W p v rows s (copies (gather a i y) h (i + 1) reads_segment))
  at_next (load g) h i y P e w =
      let D : Copying W p v (rows p) s (load g) h i = P.doing.0 in
      still W p v rows s I (copies (load (change g i y)) h (i + 1) reads_segment) (record {
        seq = λ o. reseat W p v s (copies (load g) h i (reads_header y)) (copies (load (change g i y)) h (i + 1) reads_segment)
            (λ e. e) (λ e. e) (P.seq o);
        lag = P.lag;
        doing = (
          record {
            open' = D.open';
            in' = omega (arith, D.in', w);
            old = D.old;
            who = D.who;
            done = further h i y P.doing.1 D.done;
            aim = record { from = D.aim.from; got = gathered h i y P.doing.1 g e D.aim.got; due = D.aim.due };
          },
          tt,
        );
      })
  at_next store h i y P e w =
      let D : Copying W p v (rows p) s store h i = P.doing.0 in
      still W p v rows s I (copies store h (i + 1) reads_segment) (record {
        seq = λ o. reseat W p v s (copies store h i (reads_header y)) (copies store h (i + 1) reads_segment) (λ e. e) (λ e. e) (P.seq o);
        lag = P.lag;
        doing = (
          record {
            open' = D.open';
            in' = omega (arith, D.in', w);
            old = D.old;
            who = D.who;
            done = further h i y P.doing.1 D.done;
            aim = D.aim;
          },
          tt,
        );
      })

  pub at_reads_header : (a : Aim) (h : Versioned) (i : ℕ) (y : ℕ) → Pair W p v (rows p) s (copies a h i (reads_header y)) →
      (t : Bool) → same v.header h ≡ t → (l : Bool) → ltb (i + 1) W ≡ l → Fine W p v rows (on_header W p v rows s t l a h i y)
  at_reads_header a h i y P true e true f = at_next a h i y P (same_true v.header h e).0 (ltb-true (i + 1) W f)
  at_reads_header a h i y P true e false f = at_through a h i y P (same_true v.header h e).0 (ltb-false (i + 1) W f)
  at_reads_header a h i y P false e l f = at_cut_short a h i y P e
