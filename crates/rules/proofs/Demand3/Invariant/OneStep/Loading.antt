-- The first step of a load of kind `many`, and a validate: Figure 2's LL and VL. Assumes nothing.
use mathlib.Core.Path.{refl, ap, sym, ◌∙◌}
use mathlib.Core.Logic.{inl}
use mathlib.Core.Bool.{true}
use mathlib.Core.List.{[]}
use Prim.Native.Nat.{ℕ, ◌<◌}
use native.Mathlib.Omega.{arith}
use borrow.Author.Tests.{eqb-false, eq-eqb}
use Rattle.rules.specs.Figure2.{content, truth}
use Rattle.rules.proofs.Tests.{never}
use Rattle.rules.proofs.Demand3.Change.{change_same, change_other}
use Rattle.rules.proofs.Demand3.Invariant.Kinds.{Fine}
use Rattle.rules.proofs.Demand3.Invariant.Many.{VarInv, Opened, Pair}
use Rattle.rules.proofs.Demand3.Invariant.OneStep.Leaving.{owing_inv, owing_rely}
use Rattle.rules.proofs.Demand3.Invariant.Since.{free[], last[], some_other}
use Rattle.rules.proofs.Demand3.Machine.{load_reads, validate_reads, Sequence, Var, rule}

module _ (W p : ℕ) (v : Var) (rows : ℕ → ℕ → ℕ) (s : Sequence) (I : VarInv W v) (pos : 0 < W) where
  pub at_load_reads : Pair W p v (rows p) s load_reads → Fine W p v rows (rule W p v rows s load_reads)
  unfolding rule
  at_load_reads P = record {
    inv = record { lo = I.lo; hi = I.hi; kin = I.kin; who = I.who; now = I.now; sum = I.sum };
    rely = λ r n. record {
      grow = λ i l. omega arith;
      kept = λ w l. refl;
      names = λ w l. refl;
      owes = change_other v.seen.due p (content v.seen.atomic.current) r n;
      head = inl (record { header = refl; since = change_other v.seen.since p [] r n; valid = change_other v.seen.atomic.valid p true r n });
    };
    pair = record {
      seq = λ o. record {
        old = omega arith;
        full = never;
        count = rw change_same (omega arith);
        last = rw change_same last[];
        others = rw change_same (λ _. free[]);
        valid = change_same v.seen.atomic.valid p true ∙ sym (eq-eqb v.header.version v.header.version refl);
      };
      lag = P.lag;
      doing = (
        record {
          open' = refl;
          in' = pos;
          old = omega arith;
          who = I.who;
          done = λ j l. absurd (omega arith);
          aim = record {
            from = refl;
            got = λ j l. absurd (omega arith);
            due = change_same v.seen.due p (content v.seen.atomic.current) ∙ ap content I.now;
          };
        },
        tt,
      );
    };
    right = tt;
    counts = tt;
  }

  pub at_validate_reads : Pair W p v (rows p) s validate_reads → Fine W p v rows (rule W p v rows s validate_reads)
  unfolding rule
  at_validate_reads P =
      let O : Opened W p v s validate_reads = P.seq P.doing in
      record {
        inv = owing_inv W p v (truth (v.seen.atomic.valid p)) I;
        rely = owing_rely W p v (truth (v.seen.atomic.valid p));
        pair = record {
          seq = λ o. record { old = O.old; full = O.full; count = O.count; last = O.last; others = O.others; valid = O.valid };
          lag = P.lag;
          doing = tt;
        };
        counts = tt;
        right = (
          change_same v.seen.due p (truth (v.seen.atomic.valid p)) ∙ ap truth O.valid,
          λ e. some_other p (v.seen.since p) (O.others refl) (omega (arith, O.count, O.old, eqb-false v.header.version s.kept e)),
        );
      }
