-- Runs that meet demand 3's premise, computed from the rules; and one past it that has a wrong answer. Assumes nothing.
use mathlib.Core.Path.{◌≡◌, refl, ap}
use mathlib.Core.List.{List, ◌∷◌}
use Prim.Native.Nat.{ℕ, zero, suc, ◌≤◌}
use native.Mathlib.Omega.{arith}
use lib.ListN.{replicate}
use mathlib.Core.Bool.{true}
use Rattle.std.specs.Prelude.{is_ok}
use Rattle.rules.specs.Demand3.{AtMost, most_stores, Turn, start, answer, due}
use Rattle.rules.specs.Demand3Runs as runs
use Rattle.rules.specs.Demand3Runs.{turn_of, Meets, one4, many4, FewButOne, Demand3Runs}
use Rattle.rules.specs.Entry as entry
use Rattle.rules.specs.Figure2.{change, Returned, nothing, content, truth}
use Rattle.rules.specs.Onlooker.{seen_in}
use Rattle.rules.specs.OwnSteps.{own_in}
use Rattle.rules.specs.Runs.{Event, step, run}
use Rattle.rules.specs.Sizes.{bits}
use Rattle.rules.proofs.Cases.Computing.{schedule}
use Rattle.rules.specs.Schedules.{p7_events, p8_events, value_of_one}
use Rattle.rules.specs.Types.{Reply, Ok, Witness, Yes, Call, Load, Store, Settings}

-- with one variable the premise is a bound on the first
one_variable : (t : Turn) → t.settings.t ≡ 1 → (n : ℕ) → (seen_in (start t) (step t.me ∷ t.events) 0).total ≤ n → AtMost n t
one_variable t e n h zero l = h
one_variable t e n h (suc x) l = absurd (omega (arith, e))

-- what a turn computes to
record Computed (t : Turn) (stores : ℕ) (a : Reply) : Type 0 where
  total : (seen_in (start t) (step t.me ∷ t.events) 0).total ≡ stores
  answers : answer t ≡ a

-- what the process has taken of its call, this step counted too
record Took (t : Turn) (call : Call) (steps : ℕ) : Type 0 where
  its : (own_in (start t) (step t.me ∷ t.events) t.me).call ≡ call
  took : (own_in (start t) (step t.me ∷ t.events) t.me).steps ≡ steps

-- what Figure 2 returned, in its first place
abbrev first : Returned → ℕ
first nothing = 0
first (content f) = f 0
first (truth t) = 0

record AllComputed : Type 0 where
  ready_one : is_ok (entry.set_up_rule one4 (replicate 4 0)).0 ≡ true
  ready_many : is_ok (entry.set_up_rule many4 (replicate 4 0)).0 ≡ true
  p7 : Computed (turn_of many4 ready_many p7_events 1) 1 (value_of_one 5)
  p8 : Computed (turn_of many4 ready_many p8_events 1) 1 (Ok (Witness 0))
  overtaken : Computed (turn_of many4 ready_many runs.overtaken 1) 14 (Ok (Witness 0))
  fourteenth : Computed (turn_of one4 ready_one runs.fourteenth 0) 14 (Ok Yes)
  -- 15 stores: the load answers 9, and Figure 2's variable holds 5
  one_more_lem : Computed (turn_of many4 ready_many runs.one_more 1) 15 (value_of_one 9)
  p7_took : Took (turn_of many4 ready_many p7_events 1) (Load 0) 6
  helped : answer (turn_of many4 ready_many runs.helped 0) ≡ Ok Yes
  helped_took : Took (turn_of many4 ready_many runs.helped 0) (Store 0) 8
  one_more_due : first (due (turn_of many4 ready_many runs.one_more 1)) ≡ 5

computed : AllComputed
unfolding schedule runs.backwards run own_in seen_in change
computed =
    record {
      ready_one = refl;
      ready_many = refl;
      p7 = record { total = refl; answers = refl };
      p8 = record { total = refl; answers = refl };
      overtaken = record { total = refl; answers = refl };
      fourteenth = record { total = refl; answers = refl };
      one_more_lem = record { total = refl; answers = refl };
      p7_took = record { its = refl; took = refl };
      helped = refl;
      helped_took = record { its = refl; took = refl };
      one_more_due = refl;
    }

meets : (s : Settings) (e : s.t ≡ 1) (ready : is_ok (entry.set_up_rule s (replicate 4 0)).0 ≡ true) (events : List Event)
    (me n : ℕ) (a : Reply) →
    Computed (turn_of s ready events me) n a → n ≤ most_stores (bits s) → Meets s events me n a
meets s e ready events me n a c l = record {
  ready = ready;
  few = one_variable (turn_of s ready events me) e (most_stores (bits s)) (omega (arith, c.total));
  total = c.total;
  answers = c.answers;
}

pub shown : Demand3Runs
shown =
    record {
      p7_meets = meets many4 refl computed.ready_many p7_events 1 1 (value_of_one 5) computed.p7 (omega arith);
      p8_meets = meets many4 refl computed.ready_many p8_events 1 1 (Ok (Witness 0)) computed.p8 (omega arith);
      overtaken_meets = meets many4 refl computed.ready_many runs.overtaken 1 14 (Ok (Witness 0)) computed.overtaken (omega arith);
      fourteenth_meets = meets one4 refl computed.ready_one runs.fourteenth 0 14 (Ok Yes) computed.fourteenth (omega arith);
      slowest_load = record { ready = computed.ready_many; answers = computed.p7.answers; its = computed.p7_took.its; took = computed.p7_took.took };
      slowest_store = record { ready = computed.ready_many; answers = computed.helped; its = computed.helped_took.its; took = computed.helped_took.took };
      tight = λ R.
          let t : Turn = turn_of many4 computed.ready_many runs.one_more 1 in
          let few : FewButOne t = one_variable t refl 15 (omega (arith, computed.one_more_lem.total)) in
          let wrong = R.values_are_atomic t few _ computed.one_more_lem.answers in
          omega (arith, wrong.2 0 (omega arith), computed.one_more_due, ap first wrong.1);
    }
