-- A store of kind `many` before its Copy: it reads the header, announces its values, and swaps the header. Where it finds the
-- difference it is refused as Figure 2's SC is; at its swap Figure 2's SC stores. Assumes nothing.
use mathlib.Core.Path.{◌≡◌, refl, ap, sym, ◌∙◌}
use mathlib.Core.Logic.{◌≢◌, inr}
use mathlib.Core.Bool.{Bool, true, false}
use Prim.Native.Nat.{ℕ, suc, ◌+◌, ◌≤◌, ◌<◌}
use native.Mathlib.Omega.{arith}
use lib.Dec.{eqb, ltb}
use borrow.Author.Tests.{eqb-true, eqb-false, eq-eqb, ne_eqb, ltb-true, ltb-false}
use Rattle.rules.specs.Figure2.{change, truth}
use Rattle.rules.proofs.Tests.{never}
use Rattle.rules.proofs.Demand3.Change.{change_same, change_other, change_all}
use Rattle.rules.proofs.Demand3.Invariant.Kinds.{Fine}
use Rattle.rules.proofs.Demand3.Invariant.Many.{storing, Storing, VarInv, Opened, Telling, Pair}
use Rattle.rules.proofs.Demand3.Invariant.OneStep.Leaving.{untouched, reseat, still, closed, owing, owing_inv, owing_rely}
use Rattle.rules.proofs.Demand3.Invariant.Since.{last∷, some_other}
use Rattle.rules.proofs.Demand3.Machine.{Versioned, same, Place, store_reads, announces, swaps_header, Sequence, Var, refuses, on_read, on_announced, on_swap}
use Rattle.rules.proofs.Demand3.Same.{same_true, same_false}

module _ (W p : ℕ) (v : Var) (rows : ℕ → ℕ → ℕ) (s : Sequence) (I : VarInv W v) (pos : 0 < W) where
  -- a store that is refused
  refused : (new : ℕ → ℕ) (pl : Place) → Pair W p v (rows p) s pl → s.opened ≡ true → v.header.version ≢ s.kept → storing pl ≡ false →
      ((w : Versioned) → Storing w pl → ⊥) → Fine W p v rows (refuses W p v rows s new)
  refused new pl P o n t q =
      let O : Opened W p v s pl = P.seq o in
      let f : v.seen.atomic.valid p ≡ false = O.valid ∙ ne_eqb v.header.version s.kept n in
      rw f (record {
        inv = owing_inv W p v (truth false) I;
        rely = owing_rely W p v (truth false);
        pair = record { seq = closed W p (owing p v (truth false)) s; lag = λ j l m k. absurd (q v.header (P.lag j l m k)); doing = tt };
        counts = change_same v.seen.due p (truth false);
        right = (change_same v.seen.due p (truth false), λ _. some_other p (v.seen.since p) (O.others t) (omega (arith, O.count, O.old, n)));
      })

  pub at_store_reads : (new : ℕ → ℕ) → Pair W p v (rows p) s (store_reads new) → (t : Bool) → eqb v.header.version s.kept ≡ t →
      Fine W p v rows (on_read W p v rows s t new)
  at_store_reads new P true e = still W p v rows s I (announces new v.header 0) (record {
    seq = λ o. reseat W p v s (store_reads new) (announces new v.header 0) (λ e. e) (λ e. e) (P.seq o);
    lag = P.lag;
    doing = (pos, record { open' = P.doing; from = eqb-true v.header.version s.kept e; who = I.who; told = λ j l. absurd (omega arith) });
  })
  at_store_reads new P false e = refused new (store_reads new) P P.doing (eqb-false v.header.version s.kept e) refl (λ w b. b)

  pub at_announces : (new : ℕ → ℕ) (h : Versioned) (i : ℕ) → Pair W p v (rows p) s (announces new h i) → (t : Bool) → ltb (i + 1) W ≡ t →
      Fine W p v rows (on_announced W p v rows s t new h i)
  at_announces new h i P t e = by t e
    where
      T : Telling p v (rows p) s new h i
      T = P.doing.1

      told' : (j : ℕ) → j < (i + 1) → change (rows p) i (new i) j ≡ new j
      told' = change_all (λ j b. j < (i + 1) → b ≡ new j) (rows p) i (new i) (λ _. refl) (λ j n l. T.told j (omega (arith, n)))

      by : (t : Bool) → ltb (i + 1) W ≡ t → Fine W p v rows (on_announced W p v rows s t new h i)
      by false e = record {
        inv = I;
        rely = λ r n. untouched W r v;
        pair = record {
          seq = λ o. reseat W p v s (announces new h i) (swaps_header new h) (λ e. e) (λ e. e) (P.seq o);
          lag = P.lag;
          doing = record { open' = T.open'; from = T.from; who = T.who; told = λ j l. told' j (omega (arith, ltb-false (i + 1) W e)) };
        };
        right = tt;
        counts = tt;
      }
      by true e = record {
        inv = I;
        rely = λ r n. untouched W r v;
        pair = record {
          seq = λ o. reseat W p v s (announces new h i) (announces new h (i + 1)) (λ e. e) (λ e. e) (P.seq o);
          lag = P.lag;
          doing = (ltb-true (i + 1) W e, record { open' = T.open'; from = T.from; who = T.who; told = told' });
        };
        right = tt;
        counts = tt;
      }

  pub at_swaps_header : (new : ℕ → ℕ) (h : Versioned) → Pair W p v (rows p) s (swaps_header new h) → (t : Bool) → same v.header h ≡ t →
      Fine W p v rows (on_swap W p v rows s t new h)
  at_swaps_header new h P false e =
      let T : Telling p v (rows p) s new h W = P.doing in
      refused new (swaps_header new h) P T.open' (λ k. same_false v.header h e (omega (arith, T.from))
      (let m : v.header.version ≡ h.version = omega (arith, T.from) in cc (I.who, T.who))) refl (λ w b. b)
  at_swaps_header new h P true e = rw f (record {
    inv = record {
      lo = λ i l. omega (arith, O.full refl i l);
      hi = λ i l. omega (arith, k, I.hi i l);
      kin = λ i l. I.kin i l ∙ sym (ap (λ (g : ℕ → ℕ). g i) (past (v.segment i).version (I.hi i l)));
      who = sym (change_same v.storer (suc h.version) p);
      now = sym (change_same v.stored (suc h.version) new);
      sum = omega (arith, k, I.sum);
    };
    rely = λ r n. record {
      grow = λ i l. omega arith;
      kept = past;
      names = λ w l. change_other v.storer (suc h.version) p w (λ q. omega (arith, k));
      owes = change_other v.seen.due p (truth true) r n;
      head = inr (record { by = λ q. n (sym q); up = omega (arith, k); since = refl; valid = refl });
    };
    pair = record {
      seq = λ o. record {
        old = omega arith;
        full = λ _ i l. O.full refl i l;
        count = omega (arith, k, O.count);
        last = last∷;
        others = never;
        valid = sym (ne_eqb (suc h.version) s.kept (λ q. omega arith));
      };
      lag = λ i l m q. refl;
      doing = (
        record {
          open' = T.open';
          in' = pos;
          old = omega arith;
          who = sym (change_same v.storer (suc h.version) p);
          done = λ j l. absurd (omega arith);
          aim = record {
            mine = refl;
            from = omega arith;
            told = λ j l. T.told j l ∙ sym
                (ap (λ (g : ℕ → ℕ). g j) (change_same v.stored (suc h.version) new));
            due = change_same v.seen.due p (truth true);
          };
        },
        tt,
      );
    };
    right = tt;
    counts = change_same v.seen.due p (truth true);
  })
    where
      T : Telling p v (rows p) s new h W
      T = P.doing

      O : Opened W p v s (swaps_header new h)
      O = P.seq T.open'

      k : v.header.version ≡ h.version
      k = (same_true v.header h e).0

      f : v.seen.atomic.valid p ≡ true
      f = O.valid ∙ eq-eqb v.header.version s.kept (omega (arith, k, T.from))

      past : (w : ℕ) → w ≤ v.header.version → change v.stored (suc h.version) new w ≡ v.stored w
      past w l = change_other v.stored (suc h.version) new w (λ q. omega (arith, k))
