-- What a step of kind `many` leaves as it was, for the steps of every place: a process goes on with nothing shared changed, its
-- sequence is seen from another place or is closed, or only what is due to it is written down. Assumes nothing.
use mathlib.Core.Path.{◌≡◌, refl, sym}
use mathlib.Core.Logic.{◌≢◌, inl}
use mathlib.Core.Bool.{true, false}
use Prim.Native.Nat.{ℕ}
use native.Mathlib.Omega.{arith}
use Rattle.rules.specs.Figure2.{change, Returned}
use Rattle.rules.proofs.Tests.{never}
use Rattle.rules.proofs.Demand3.Change.{change_other}
use Rattle.rules.proofs.Demand3.Invariant.Kinds.{Fine}
use Rattle.rules.proofs.Demand3.Invariant.Many.{loading, storing, VarInv, Opened, Pair, Rely}
use Rattle.rules.proofs.Demand3.Machine.{Place, idle, Sequence, shut, Var, goes}

-- a variable that nobody touched
pub untouched : (W r : ℕ) (v : Var) → Rely W r v v
untouched W r v = record {
  grow = λ i h. omega arith;
  kept = λ w h. refl;
  names = λ w h. refl;
  owes = refl;
  head = inl (record { header = refl; since = refl; valid = refl });
}

-- the same sequence, seen from another place
pub reseat : (W p : ℕ) (v : Var) (s : Sequence) (pl pl' : Place) → (loading pl' ≡ false → loading pl ≡ false) →
    (storing pl' ≡ false → storing pl ≡ false) →
    Opened W p v s pl → Opened W p v s pl'
reseat W p v s pl pl' l t O = record {
  old = O.old;
  full = λ e. O.full (l e);
  count = O.count;
  last = O.last;
  others = λ e. O.others (t e);
  valid = O.valid;
}

-- a process that goes on and changes nothing shared
pub still : (W p : ℕ) (v : Var) (rows : ℕ → ℕ → ℕ) (s : Sequence) → VarInv W v →
    (pl : Place) → Pair W p v (rows p) s pl → Fine W p v rows (goes W p v rows s pl)
still W p v rows s I pl P = record { inv = I; rely = λ r n. untouched W r v; pair = P; right = tt; counts = tt }

-- a sequence that is closed asks nothing
pub closed : (W p : ℕ) (v : Var) (s : Sequence) → (shut s).opened ≡ true → Opened W p v (shut s) idle
closed W p v s e = never (sym e)

-- what is due to p is written down, and nothing else changes
abbrev pub owing : ℕ → Var → Returned → Var
owing p v d = record {
  header = v.header;
  segment = v.segment;
  seen = record { atomic = v.seen.atomic; since = v.seen.since; total = v.seen.total; due = change v.seen.due p d };
  stored = v.stored;
  storer = v.storer;
}

pub owing_inv : (W p : ℕ) (v : Var) (d : Returned) → VarInv W v → VarInv W (owing p v d)
owing_inv W p v d I = record { lo = I.lo; hi = I.hi; kin = I.kin; who = I.who; now = I.now; sum = I.sum }

pub owing_rely : (W p : ℕ) (v : Var) (d : Returned) (r : ℕ) → r ≢ p → Rely W r v (owing p v d)
owing_rely W p v d r n = record {
  grow = λ i l. omega arith;
  kept = λ w l. refl;
  names = λ w l. refl;
  owes = change_other v.seen.due p d r n;
  head = inl (record { header = refl; since = refl; valid = refl });
}
