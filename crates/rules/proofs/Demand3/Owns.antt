-- What holds of every process and of what an onlooker keeps of it, all along a run: by recursion on the events. What is to be
-- shown is that it holds of a fresh process, of one that has just begun a call, and of one after a step. Assumes nothing.
use mathlib.Core.Path.{◌≡◌, sym, subst}
use mathlib.Core.Bool.{true, false, cond}
use mathlib.Core.List.{List, [], ◌∷◌}
use Prim.Native.Nat.{ℕ, zero, suc, ◌≤◌, ◌<◌}
use native.Mathlib.Omega.{arith}
use lib.ListN.{length, get_or, replicate}
use lib.Seq.{get_or-set_same, get_or-set_other}
use Rattle.rules.specs.Entry.{fresh_process, begin_rule, step_rule}
use Rattle.rules.specs.Figure2.{change}
use Rattle.rules.specs.GoodForm.{place_fits}
use Rattle.rules.specs.OwnSteps.{Own, unbegun, begins_own, steps_own, counting, taken, answer_of, own_in}
use Rattle.rules.specs.Processes.{is_idle, nobody, process_at, put_process}
use Rattle.rules.specs.Refusals.{sizes_check}
use Rattle.rules.specs.Runs.{State, Event, begin, step, process_of, after, fresh, run}
use Rattle.rules.specs.Steps.{beginning, step_from, process_step}
use Rattle.rules.specs.Types.{Answered, Board, Call, Ok, Process, Settings}
use Rattle.rules.proofs.Changes.Frame.{framed}
use Rattle.rules.proofs.GoodForm.Held.{clauses}
use Rattle.rules.proofs.GoodForm.Keeps.{process_fits_lem}
use Rattle.rules.proofs.Refusals.Checked.{Accepted}
use Rattle.rules.proofs.Sizes.Sized.{sized}
use Rattle.rules.proofs.Demand3.Change.{change_all}
use Rattle.rules.proofs.Demand3.Runs.{begin_cases, step_cases, BoardOf, state_of, as_parts, fresh_is, run_shaped}

-- a fresh process, and none past them
pub fresh_each : (P : Process → Type 0) → P fresh_process → P nobody → (n i : ℕ) → P (get_or (replicate n fresh_process) i nobody)
fresh_each P h o zero i = o
fresh_each P h o (suc n) zero = h
fresh_each P h o (suc n) (suc i) = fresh_each P h o n i

module _ (s : Settings) (P : Own → Process → Type 0)
    (first : (call : Call) (values : List ℕ) (p : Process) → P (begins_own call values) (beginning s call values p))
    (next : (own : Own) (p : Process) (me : ℕ) (words : List ℕ) → place_fits s p.opened p.place ≡ true → is_idle p.place ≡ false
    → 1 ≤ s.w → P own p
    → P (steps_own (step_from p.place s p me words).0.answer own) (step_from p.place s p me words).0.after) where
  abbrev Each : (ℕ → Own) → Board → Type 0
  Each own board = (q : ℕ) → P (own q) (process_at board q)

  -- one process of the board is changed
  put_own : (own : ℕ → Own) (board : Board) (me : ℕ) (p : Process) (mine : Own) → me < length board.processes →
      P mine p → Each own board → Each (change own me mine) (put_process board me p)
  put_own own board me p mine l h o =
      change_all (λ q c. P c (process_at (put_process board me p) q)) own me mine
      (rw (get_or-set_same board.processes me p nobody l) h)
      (λ q n. rw (get_or-set_other board.processes me q p nobody n) (o q))

  module _ (own : ℕ → Own) (processes : List Process) (words : List ℕ) (sixteen : length processes ≡ 16) where
    abbrev board : Board
    board = (state_of s processes words).board

    abbrev After : Event → Answered Board → Type 0
    After event a =
        Each (cond (taken a.answer) (change own (process_of event) (counting event a.answer (own (process_of event)))) own) a.after

    room : {me : ℕ} → Accepted board me words → me < length processes
    room a = omega (arith, (sized s a.sizes.settings).n_most, a.mine)

    begin_own : (me : ℕ) (call : Call) (values : List ℕ) → Each own board → After (begin me call values) (begin_rule board me call values words)
    begin_own me call values o =
        begin_cases (After (begin me call values)) board me call values words
        (λ a b. put_own own board me (beginning s call values (process_at board me)) (begins_own call values) (room a)
        (first call values (process_at board me)) o)
        (λ r. o)

    step_own : (me : ℕ) → Each own board → After (step me) (step_rule board me words).0
    unfolding process_step
    step_own me o =
        step_cases (λ a. After (step me) a.0) board me words
        (λ a busy.
        let p : Process = process_at board me in
        let moved : Answered Process = (step_from p.place s p me words).0 in
        let fits = (clauses s p (process_fits_lem board words a.good me a.mine)).place in
        let h = next (own me) p me words fits busy (sized s a.sizes.settings).w_least (o me) in
        rw (framed p.place s p me words busy).own.answers
        (put_own own board me moved.after (steps_own moved.answer (own me)) (room a) h o))
        (λ r. o)

  -- any board of these settings
  abbrev EachAfter : (ℕ → Own) → Event → State → Type 0
  EachAfter own event state =
      Each (cond (taken (answer_of event state)) (change own (process_of event) (counting event (answer_of event state) (own (process_of event)))) own)
      (after event state).board

  event_own : (own : ℕ → Own) (state : State) → BoardOf s state.board → Each own state.board → (event : Event) → EachAfter own event state
  event_own own state h o event =
      subst (λ (u : State). Each own u.board → EachAfter own event u) (sym (as_parts s state h)) (by event) o
    where
      by : (e : Event) → Each own (state_of s state.board.processes state.words).board
          → EachAfter own e (state_of s state.board.processes state.words)
      by (begin me call values) = begin_own own state.board.processes state.words h.sixteen me call values
      by (step me) = step_own own state.board.processes state.words h.sixteen me

  pub each_own : (lent : List ℕ) → sizes_check s (length lent) ≡ Ok tt → P unbegun fresh_process → P unbegun nobody →
      (events : List Event) → Each (own_in (fresh s lent) events) (run (fresh s lent) events).board
  unfolding run own_in
  each_own lent ready f n [] q =
      subst (λ (u : State). P unbegun (process_at u.board q)) (sym (fresh_is s lent ready)) (fresh_each (P unbegun) f n 16 q)
  each_own lent ready f n (event ∷ events) q =
      event_own (own_in (fresh s lent) events) (run (fresh s lent) events) (run_shaped s lent ready events) (each_own lent ready f n events) event q
