-- The invariant of the whole machine: a fresh one has it, and every begin and step keeps it. Assumes nothing.
use mathlib.Core.Path.{◌≡◌, refl, sym}
use mathlib.Core.Logic.{◌≢◌}
use mathlib.Core.Bool.{Bool, true, false, cond}
use Prim.Native.Nat.{ℕ, ◌<◌}
use native.Mathlib.Omega.{arith}
use lib.Dec.{eqb}
use borrow.Author.Tests.{eq-eqb, ne_eqb}
use Rattle.rules.specs.Figure2.{change}
use Rattle.rules.proofs.Demand3.Change.{change_all, change_both}
use Rattle.rules.proofs.Demand3.Invariant.Begin.{idle_row, first_of, Has, begin_k, anew_inv, anew_rely, anew_idle}
use Rattle.rules.proofs.Demand3.Invariant.Kinds.{VarInvK, PairK, FineK, stable_k}
use Rattle.rules.proofs.Demand3.Invariant.OneStep.EachPlace.{fine_k}
use Rattle.rules.proofs.Demand3.Machine.{stamp, Place, idle, Sequence, Var, Out, anew, acts}
use Rattle.rules.specs.Onlooker.{unseen}
use Rattle.rules.specs.Types.{Kind, One, Many, Call}
use Rattle.rules.proofs.Tests.{never}

-- a process: the variable of its call, where it stands there, and what it holds for each variable
pub record Proc : Type 0 where
  pub at : ℕ
  pub place : Place
  pub sequences : ℕ → Sequence

pub record State : Type 0 where
  pub vars : ℕ → Var
  pub rows : ℕ → ℕ → ℕ
  pub procs : ℕ → Proc

abbrev pub fresh_state : State
fresh_state =
    record {
      vars = λ x. record { header = stamp 0 0; segment = λ i. stamp 0 0; seen = unseen; stored = λ t i. 0; storer = λ t. 0 };
      rows = λ p i. 0;
      procs = λ p. record { at = 0; place = idle; sequences = λ x. record { kept = 0; kept_value = 0; opened = false } };
    }

-- what the step of process p, which is at the variable x, does
abbrev pub out_at : Kind → ℕ → State → ℕ → ℕ → Out
out_at k W st p x = acts k W p (st.vars x) st.rows ((st.procs p).sequences x) (st.procs p).place

abbrev pub apply : State → ℕ → ℕ → Out → State
apply st p x o =
    record {
      vars = change st.vars x o.var;
      rows = change st.rows p o.row;
      procs = change st.procs p (record { at = x; place = o.place; sequences = change (st.procs p).sequences x o.sequence });
    }

abbrev pub begun : State → ℕ → ℕ → Place → State
begun st p x pl =
    record {
      vars = change st.vars x (anew p (st.vars x));
      rows = st.rows;
      procs = change st.procs p (record { at = x; place = pl; sequences = (st.procs p).sequences });
    }

-- where a process stands at a variable: idle, but at that of its call
abbrev view : Proc → ℕ → Place
view r x = cond (eqb x r.at) r.place idle

-- each variable's invariant, and each process's part at each variable
pub record Inv (k : Kind) (W : ℕ) (st : State) : Type 0 where
  pub var : (x : ℕ) → VarInvK k W (st.vars x)
  pub pair : (p x : ℕ) → PairK k W p (st.vars x) (st.rows p) ((st.procs p).sequences x) (view (st.procs p) x)

-- process p, which is at the variable x, takes a step that leaves o
module _ (k : Kind) (W : ℕ) (st : State) (I : Inv k W st) (p x : ℕ) (e : (st.procs p).at ≡ x) (o : Out) (F : FineK k W p (st.vars x) o) where
  own : (y : ℕ) → PairK k W p (change st.vars x o.var y) o.row (change (st.procs p).sequences x o.sequence y)
      (cond (eqb y x) o.place idle)
  own = change_both (λ y v s. PairK k W p v o.row s (cond (eqb y x) o.place idle)) st.vars (st.procs p).sequences x o.var o.sequence
      (rw (eq-eqb x x refl) F.pair)
      (λ y n. rw (ne_eqb y x n) (idle_row k W p (st.vars y) (st.rows p) o.row ((st.procs p).sequences y)
      (rw (e, ne_eqb y x n) at (I.pair p y))))

  other : (r : ℕ) → r ≢ p → (y : ℕ) → PairK k W r (change st.vars x o.var y) (st.rows r) ((st.procs r).sequences y) (view (st.procs r) y)
  other r n = change_all (λ y v. PairK k W r v (st.rows r) ((st.procs r).sequences y) (view (st.procs r) y)) st.vars x o.var
      (stable_k k W r (st.vars x) o.var (I.var x) F.inv (F.rely r n) ((st.procs r).sequences x) (st.rows r)
      (view (st.procs r) x) (I.pair r x))
      (λ y m. I.pair r y)

  applied : Inv k W (apply st p x o)
  applied = record {
    var = change_all (λ y v. VarInvK k W v) st.vars x o.var F.inv (λ y n. I.var y);
    pair = change_both (λ r row c. (y : ℕ) → PairK k W r (change st.vars x o.var y) row (c.sequences y) (view c y))
        st.rows st.procs p o.row
        (record { at = x; place = o.place; sequences = change (st.procs p).sequences x o.sequence }) own other;
  }

module _ (k : Kind) (W : ℕ) (pos : 0 < W) (st : State) (I : Inv k W st) (p x : ℕ) (e : (st.procs p).at ≡ x) where
  pub fine : FineK k W p (st.vars x) (out_at k W st p x)
  fine =
      rw (eq-eqb x (st.procs p).at (sym e)) at
      (fine_k k W pos p (st.vars x) st.rows (λ q. (st.procs q).sequences x) (λ q. view (st.procs q) x) (I.var x) (λ q. I.pair q x))

  pub stepped : Inv k W (apply st p x (out_at k W st p x))
  stepped = applied k W st I p x e (out_at k W st p x) fine

cond_same {ℓ} : {A : Type ℓ} (t : Bool) (a : A) → cond t a a ≡ a
cond_same true a = refl
cond_same false a = refl

pub begin_kept : (k : Kind) (W : ℕ) (st : State) → Inv k W st → (p : ℕ) → (st.procs p).place ≡ idle → (x : ℕ) (c : Call) (new : ℕ → ℕ) →
    Has c ((st.procs p).sequences x) → Inv k W (begun st p x (first_of c new))
begin_kept k W st I p e x c new h =
    let v : Var = anew p (st.vars x) in
    let inv : VarInvK k W v = anew_inv k W p (st.vars x) (I.var x) in
    record {
      var = change_all (λ y u. VarInvK k W u) st.vars x v inv (λ y n. I.var y);
      pair = change_all (λ r q. (y : ℕ) → PairK k W r (change st.vars x v y) (st.rows r) (q.sequences y) (view q y)) st.procs p
          (record { at = x; place = first_of c new; sequences = (st.procs p).sequences })
          (change_all (λ y u. PairK k W p u (st.rows p) ((st.procs p).sequences y) (cond (eqb y x) (first_of c new) idle)) st.vars x v
          (rw (eq-eqb x x refl) (begin_k k W p v (st.rows p) ((st.procs p).sequences x)
          (anew_idle k W p (st.vars x) (st.rows p) ((st.procs p).sequences x) (was x)) c new h))
          (λ y n. rw (ne_eqb y x n) (was y)))
          (λ r n. change_all (λ y u. PairK k W r u (st.rows r) ((st.procs r).sequences y) (view (st.procs r) y)) st.vars x v
          (stable_k k W r (st.vars x) v (I.var x) inv (anew_rely k W p (st.vars x) r n) ((st.procs r).sequences x) (st.rows r)
          (view (st.procs r) x) (I.pair r x))
          (λ y m. I.pair r y));
    }
  where
    was : (y : ℕ) → PairK k W p (st.vars y) (st.rows p) ((st.procs p).sequences y) idle
    was y = rw (e, cond_same (eqb y (st.procs p).at) idle) at (I.pair p y)

pub fresh_inv : (k : Kind) (W : ℕ) → Inv k W fresh_state
fresh_inv One W = record {
  var = λ x. record { now = refl; sum = refl };
  pair = λ p x. rw (cond_same (eqb x 0) idle) (record { seq = λ e. never (sym e); doing = tt });
}
fresh_inv Many W = record {
  var = λ x. record { lo = λ i l. omega arith; hi = λ i l. omega arith; kin = λ i l. refl; who = refl; now = refl; sum = refl };
  pair = λ p x. rw (cond_same (eqb x 0) idle) (record { seq = λ e. never (sym e); lag = λ i l m e. omega arith; doing = tt });
}
