-- What the others do keeps a process's part of the invariant. Assumes nothing.
use mathlib.Core.Path.{◌≡◌, ap, sym, ◌∙◌}
use mathlib.Core.Logic.{◌⊎◌, inl, inr}
use mathlib.Core.Bool.{true}
use Prim.Native.Nat.{ℕ, suc, ◌≤◌, ◌<◌}
use native.Mathlib.Omega.{arith}
use borrow.Author.Tests.{ne_eqb}
use Rattle.rules.proofs.Demand3.Invariant.Many.{Storing, VarInv, Opened, PhaseOk, AimOk, Copying, Telling, Doing, Pair, Stays, Moves, Rely}
use Rattle.rules.proofs.Demand3.Invariant.Since.{free∷, last∷}
use Rattle.rules.proofs.Demand3.Machine.{Versioned, Phase, reads_segment, reads_announced, swaps_segment, reads_again, reads_header, Aim, load, store, Place, idle, load_reads, validate_reads, store_reads, announces, swaps_header, copies, Sequence, Var}

module _ (W p : ℕ) (v v' : Var) (I : VarInv W v) (I' : VarInv W v') (R : Rely W p v v') where
  up : v.header.version ≤ v'.header.version
  up = by R.head
    where
      by : Stays p v v' ⊎ Moves p v v' → v.header.version ≤ v'.header.version
      by (inl k) = omega (arith, ap (λ (h : Versioned). h.version) k.header)
      by (inr k) = omega (arith, k.up)

  opened : (s : Sequence) (pl : Place) → Opened W p v s pl → Opened W p v' s pl
  opened s pl O = by R.head
    where
      by : Stays p v v' ⊎ Moves p v v' → Opened W p v' s pl
      by (inl k) = record {
        old = rw k.header O.old;
        full = λ l i h. omega (arith, R.grow i h, O.full l i h);
        count = rw (k.header, k.since) O.count;
        last = rw (k.header, k.since) O.last;
        others = rw k.since O.others;
        valid = rw (k.header, k.valid) O.valid;
      }
      by (inr k) = record {
        old = omega (arith, O.old, k.up);
        full = λ l i h. omega (arith, R.grow i h, O.full l i h);
        count = rw k.since (omega (arith, O.count, k.up));
        last = rw k.since last∷;
        others = rw k.since (λ l. free∷ k.by (O.others l));
        valid = k.valid ∙ sym (ne_eqb v'.header.version s.kept (λ e. omega (arith, e, O.old, k.up)));
      }

  lag : (s : Sequence) (pl : Place) (row : ℕ → ℕ) → Pair W p v row s pl →
      (i : ℕ) → i < W → v'.header.value ≡ p → suc (v'.segment i).version ≡ v'.header.version → Storing v'.header pl
  lag s pl row P i h m e = by R.head
    where
      by : Stays p v v' ⊎ Moves p v v' → Storing v'.header pl
      by (inl k) = rw k.header (P.lag i h (rw k.header at m) (omega (arith, I.lo i h, R.grow i h, rw k.header at e, I.hi i h)))
      by (inr k) = absurd (k.by m)

  telling : (s : Sequence) (pl : Place) (row : ℕ → ℕ) (new : ℕ → ℕ) (h : Versioned) (n : ℕ) → (s.opened ≡ true → Opened W p v s pl) →
      Telling p v row s new h n → Telling p v' row s new h n
  telling s pl row new h n O T = record {
    open' = T.open';
    from = T.from;
    who = T.who ∙ sym (R.names h.version (omega (arith, T.from, (O T.open').old)));
    told = T.told;
  }

  aimed : (s : Sequence) (row : ℕ → ℕ) (a : Aim) (h : Versioned) (i : ℕ) → h.version ≤ v.header.version →
      AimOk W p v row s h i a → AimOk W p v' row s h i a
  aimed s row (load g) h i o A = record {
    from = A.from;
    got = rw (R.kept h.version o) A.got;
    due = rw (R.kept h.version o, R.owes) A.due;
  }
  aimed s row store h i o A = record {
    mine = A.mine;
    from = A.from;
    told = rw (R.kept h.version o) A.told;
    due = R.owes ∙ A.due;
  }

  phased : (h : Versioned) (i : ℕ) (ph : Phase) → i < W → h.version ≤ v.header.version → PhaseOk v h i ph → PhaseOk v' h i ph
  phased h i reads_segment l o A = tt
  phased h i (reads_announced y) l o A = record { prev = A.prev; kin = rw (R.kept y.version (omega (arith, A.prev))) A.kin }
  phased h i (swaps_segment y z) l o A = (
    record { prev = A.0.prev; kin = rw (R.kept y.version (omega (arith, A.0.prev))) A.0.kin },
    λ e. rw (R.kept h.version o) (A.1 (omega (arith, I.lo i l, R.grow i l))),
  )
  phased h i reads_again l o A = omega (arith, R.grow i l)
  phased h i (reads_header y) l o A = record {
    here' = omega (arith, R.grow i l, A.here');
    read = A.read;
    lo = A.lo;
    hi = omega (arith, A.hi, up);
    kin = rw (R.kept A.read A.hi) A.kin;
  }

  copying : (s : Sequence) (row : ℕ → ℕ) (a : Aim) (h : Versioned) (i : ℕ) → Copying W p v row s a h i → Copying W p v' row s a h i
  copying s row a h i D = record {
    open' = D.open';
    in' = D.in';
    old = omega (arith, D.old, up);
    who = D.who ∙ sym (R.names h.version D.old);
    done = λ j l. omega (arith, D.done j l, R.grow j (omega (arith, D.in')));
    aim = aimed s row a h i D.old D.aim;
  }

  doing : (s : Sequence) (row : ℕ → ℕ) (pl : Place) → (s.opened ≡ true → Opened W p v s pl) → Doing W p v row s pl → Doing W p v' row s pl
  doing s row idle O D = tt
  doing s row load_reads O D = tt
  doing s row validate_reads O D = D
  doing s row (store_reads new) O D = D
  doing s row (announces new h i) O D = (D.0, telling s (announces new h i) row new h i O D.1)
  doing s row (swaps_header new h) O D = telling s (swaps_header new h) row new h W O D
  doing s row (copies a h i ph) O D = (copying s row a h i D.0, phased h i ph D.0.in' D.0.old D.1)

  pub stable : (s : Sequence) (row : ℕ → ℕ) (pl : Place) → Pair W p v row s pl → Pair W p v' row s pl
  stable s row pl P = record {
    seq = λ o. opened s pl (P.seq o);
    lag = lag s pl row P;
    doing = doing s row pl P.seq P.doing;
  }
