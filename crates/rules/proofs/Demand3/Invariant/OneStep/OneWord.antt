-- Kind `one`: each step keeps the invariant, answers right, and counts as Figure 2 says. Assumes nothing.
use mathlib.Core.Path.{◌≡◌, refl, ap, sym, ◌∙◌}
use mathlib.Core.Logic.{inl, inr}
use mathlib.Core.Bool.{Bool, true, false}
use mathlib.Core.List.{[]}
use Prim.Native.Nat.{ℕ, suc, ◌<◌}
use native.Mathlib.Omega.{arith}
use lib.Dec.{eqb}
use borrow.Author.Tests.{eqb-false, eq-eqb, ne_eqb}
use Rattle.rules.specs.Demand3.{Another}
use Rattle.rules.specs.Figure2.{content, truth}
use Rattle.rules.proofs.Tests.{never}
use Rattle.rules.proofs.Demand3.Change.{change_same, change_other, each}
use Rattle.rules.proofs.Demand3.Invariant.Kinds.{Fine₁}
use Rattle.rules.proofs.Demand3.Invariant.One.{VarInv₁, Opened₁, Pair₁}
use Rattle.rules.proofs.Demand3.Invariant.Since.{free[], some_other}
use Rattle.rules.proofs.Demand3.Machine.{same, Place, idle, load_reads, validate_reads, store_reads, announces, swaps_header, copies, Sequence, Var, on_word_swap, kept_word, rule_one}
use Rattle.rules.proofs.Demand3.Same.{same_true, same_false}

module _ (W p : ℕ) (v : Var) (rows : ℕ → ℕ → ℕ) (s : Sequence) (I : VarInv₁ v) where
  -- the words are the same exactly cond the versions are
  test : Opened₁ p v s → same v.header (kept_word s) ≡ eqb v.header.version s.kept
  test O = by (same v.header (kept_word s)) refl
    where
      by : (t : Bool) → same v.header (kept_word s) ≡ t → t ≡ eqb v.header.version s.kept
      by true e = sym (eq-eqb v.header.version s.kept (same_true v.header (kept_word s) e).0)
      by false e = sym (ne_eqb v.header.version s.kept
          (λ k. same_false v.header (kept_word s) e k (sym (O.whole (sym k)))))

  missed : Opened₁ p v s → same v.header (kept_word s) ≡ false → Another p (v.seen.since p)
  missed O e = some_other p (v.seen.since p) O.others (omega
      (arith, O.count, O.old, eqb-false v.header.version s.kept (sym (test O) ∙ e)))

  one_store_reads : (new : ℕ → ℕ) → Pair₁ p v (rows p) s (store_reads new) → (t : Bool) →
      same v.header (kept_word s) ≡ t → Fine₁ W p v rows (on_word_swap 1 p v rows s t new)
  one_store_reads new P true e =
      let O : Opened₁ p v s = P.seq P.doing in
      let f : v.seen.atomic.valid p ≡ true = O.valid ∙ sym (test O) ∙ e in
      rw f (record {
        inv = record { now = refl; sum = ap suc I.sum };
        rely = λ r n. inr (record { by = p; else' = λ q. n (sym q); up = refl; since = refl; valid = refl });
        pair = record { seq = λ o. never (sym o); doing = tt };
        right = (change_same v.seen.due p (truth true), never);
        counts = change_same v.seen.due p (truth true);
      })
  one_store_reads new P false e =
      let O : Opened₁ p v s = P.seq P.doing in
      let f : v.seen.atomic.valid p ≡ false = O.valid ∙ sym (test O) ∙ e in
      rw f (record {
        inv = record { now = I.now; sum = I.sum };
        rely = λ r n. inl (record { header = refl; since = refl; valid = refl });
        pair = record { seq = λ o. never (sym o); doing = tt };
        right = (change_same v.seen.due p (truth false), λ _. missed O e);
        counts = change_same v.seen.due p (truth false);
      })

  pub one_fine : (pl : Place) → Pair₁ p v (rows p) s pl → Fine₁ W p v rows (rule_one 1 p v rows s pl)
  unfolding rule_one
  one_fine idle P = record { inv = I; rely = λ r n. inl (record { header = refl; since = refl; valid = refl }); pair = P; right = tt; counts = tt }
  one_fine load_reads P = record {
    inv = record { now = I.now; sum = I.sum };
    rely = λ r n. inl (record {
      header = refl;
      since = change_other v.seen.since p [] r n;
      valid = change_other
          v.seen.atomic.valid p true r n;
    });
    pair = record {
      seq = λ o. record {
        old = omega arith;
        whole = λ e. refl;
        count = rw change_same (omega arith);
        others = rw change_same free[];
        valid = change_same v.seen.atomic.valid p true ∙ sym (eq-eqb v.header.version v.header.version refl);
      };
      doing = tt;
    };
    counts = tt;
    right = (
      change_same v.seen.since p [],
      (
        v.seen.atomic.current,
        change_same v.seen.due p
            (content v.seen.atomic.current),
        each (λ i. i < 1 → v.header.value ≡ v.seen.atomic.current i) 0 (λ _. I.now)
            (λ j n l. absurd (omega (arith, n))),
      ),
    );
  }
  one_fine validate_reads P =
      let O : Opened₁ p v s = P.seq P.doing in
      record {
        inv = record { now = I.now; sum = I.sum };
        rely = λ r n. inl (record { header = refl; since = refl; valid = refl });
        pair = record { seq = λ o. record { old = O.old; whole = O.whole; count = O.count; others = O.others; valid = O.valid }; doing = tt };
        counts = tt;
        right = (change_same v.seen.due p (truth (v.seen.atomic.valid p)) ∙ ap truth (O.valid ∙ sym (test O)), missed O);
      }
  one_fine (store_reads new) P = one_store_reads new P (same v.header (kept_word s)) refl
  one_fine (announces new h i) P = absurd P.doing
  one_fine (swaps_header new h) P = absurd P.doing
  one_fine (copies a h i ph) P = absurd P.doing
