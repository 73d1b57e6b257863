-- From a fresh set-up on, the board of a run stands for a state of the machine that the invariant holds of, as long as steps
-- are taken in short sequences; so what the next step answers is right. Assumes nothing.
use mathlib.Core.Path.{◌≡◌, refl, sym, ap, ◌∙◌, subst}
use mathlib.Core.Bool.{true}
use mathlib.Core.List.{List, [], ◌∷◌}
use Prim.Native.Nat.{ℕ, ◌^◌, ◌≤◌}
use native.Mathlib.Omega.{arith}
use lib.ListN.{length}
use lib.Pow.{pow_mono}
use Rattle.rules.specs.Bounds.{Sized}
use Rattle.rules.specs.Demand3.{most_stores, Short, AllShort}
use Rattle.rules.specs.Entry.{begin_rule, step_rule}
use Rattle.rules.specs.Onlooker.{Seen, note_of, seen_in}
use Rattle.rules.specs.OwnSteps.{Own, answer_of, taken, own_in}
use Rattle.rules.specs.Refusals.{sizes_check, variable_of}
use Rattle.rules.specs.Runs.{State, Event, begin, step, after, fresh, run}
use Rattle.rules.specs.Sizes.{bits}
use Rattle.rules.specs.Types.{Reply, Ok, Err, Answered, Board, Call, Process, Settings}
use Rattle.rules.proofs.Changes.Places.{variable_at}
use Rattle.rules.proofs.Tests.{never}
use Rattle.rules.proofs.Demand3.Called.{told, watched}
use Rattle.rules.proofs.Demand3.Follow.{RightAnswer, BeginFollows, begin_follows, StepFollows, step_follows}
use Rattle.rules.proofs.Demand3.Means.{BoardMeans}
use Rattle.rules.proofs.Demand3.Fresh.{fresh_means}
use Rattle.rules.proofs.Demand3.Invariant.Kinds.{Counts, width}
use Rattle.rules.proofs.Demand3.Invariant.Whole.{State as Machine, Inv, fresh_state, fresh_inv}
use Rattle.rules.proofs.Calls.Told.{place_of, sequence_at, note_from, watch_from}
use Rattle.rules.proofs.Demand3.Runs.{begin_cases, step_cases, BoardOf, state_of, as_parts, fresh_is, run_shaped}

-- the board of a run stands for a state of the machine that its invariant holds of
pub record Stood (s : Settings) (state : State) (seen : ℕ → Seen) : Type 0 where
  pub machine : Machine
  pub inv : Inv s.kind s.w machine
  pub means : BoardMeans s machine state.board.processes state.words seen

-- so does the board after a step, and what the step answers is right
pub record Stepped (s : Settings) (state : State) (seen : ℕ → Seen) (me : ℕ) : Type 0 where
  pub stood : Stood s (after (step me) state) (watch_from (step me) state seen)
  pub right : RightAnswer (width s.kind s.w) me (watch_from (step me) state seen (variable_at (place_of state me))) (answer_of (step me) state)
  pub counts : taken (answer_of (step me) state) ≡ true → Counts me (watch_from (step me) state seen (variable_at (place_of state me))) (note_from (step me) state)

-- of a refusal nothing is asked
if_taken : (W p : ℕ) (o : Seen) (a : Reply) → (taken a ≡ true → RightAnswer W p o a) → RightAnswer W p o a
if_taken W p o (Ok answer) h = h refl
if_taken W p o (Err r) h = tt

-- a step that answers so, if it is taken, is in a short sequence
abbrev ShortBy : Settings → State → (ℕ → Seen) → ℕ → Reply → Type 0
ShortBy s state seen me a =
    taken a ≡ true → sequence_at (place_of state me) ≡ true →
    length ((seen (variable_at (place_of state me))).since me) ≤ most_stores (bits s)

abbrev ShortStep : Settings → State → (ℕ → Seen) → ℕ → Type 0
ShortStep s state seen me = ShortBy s state seen me (answer_of (step me) state)

module _ (s : Settings) (z : Sized s) where
  two : 16 ≤ 2 ^ bits s
  two = pow_mono z.b_least

  -- a step of a board of these settings
  module _ (processes : List Process) (words : List ℕ) (seen : ℕ → Seen) (me : ℕ) (S : Stood s (state_of s processes words) seen) where
    abbrev state : State
    state = state_of s processes words

    abbrev Follows : Answered Board × List ℕ → Type 0
    Follows = StepFollows s z S.machine S.inv processes words seen S.means me

    step_by_lem : ShortStep s state seen me →
        Follows (step_rule state.board me words)
    step_by_lem = step_cases (λ a. ShortBy s state seen me a.0.answer → Follows a)
        state.board me words
        (λ a busy B. step_follows s z S.machine S.inv processes words seen S.means me a busy (λ g i. omega (arith, B g i, two)))
        (λ r B. record { next = S.machine; inv = S.inv; means = S.means; right = tt; counts = λ g. never (sym g) })

    step_of : ShortStep s state seen me → Stepped s state seen me
    step_of B =
        let F : Follows (step_rule state.board me words) = step_by_lem B in
        record { stood = record { machine = F.next; inv = F.inv; means = F.means }; right = F.right; counts = F.counts }

  module _ (processes : List Process) (words : List ℕ) (seen : ℕ → Seen) (me : ℕ) (call : Call) (values : List ℕ)
      (S : Stood s (state_of s processes words) seen) where
    abbrev state' : State
    state' = state_of s processes words

    abbrev Begins : Answered Board → Type 0
    Begins = BeginFollows s z S.machine S.inv processes words seen S.means me call

    begin_of : Stood s (after (begin me call values) state') (watch_from (begin me call values) state' seen)
    begin_of =
        let F : Begins (begin_rule state'.board me call values words) =
        begin_cases Begins state'.board me call values words
        (λ a b. begin_follows s z S.machine S.inv processes words seen S.means me call values a b)
        (λ r. record { next = S.machine; inv = S.inv; means = S.means }) in
        record { machine = F.next; inv = F.inv; means = F.means }

  -- any board of these settings
  step_any : (state : State) (seen : ℕ → Seen) (me : ℕ) → BoardOf s state.board → Stood s state seen → ShortStep s state seen me →
      Stepped s state seen me
  step_any state seen me h = subst (λ (u : State). Stood s u seen → ShortStep s u seen me → Stepped s u seen me) (sym (as_parts s state h))
      (λ S B. step_of state.board.processes state.words seen me S B)

  begin_any : (state : State) (seen : ℕ → Seen) (me : ℕ) (call : Call) (values : List ℕ) → BoardOf s state.board → Stood s state seen →
      Stood s (after (begin me call values) state) (watch_from (begin me call values) state seen)
  begin_any state seen me call values h =
      subst (λ (u : State). Stood s u seen → Stood s (after (begin me call values) u) (watch_from (begin me call values) u seen)) (sym (as_parts s state h))
      (λ S. begin_of state.board.processes state.words seen me call values S)

  -- a run
  module _ (lent : List ℕ) (f : sizes_check s (length lent) ≡ Ok tt) where
    abbrev start : State
    start = fresh s lent

    start_settings : start.board.settings ≡ s
    start_settings = ap (λ (u : State). u.board.settings) (fresh_is s lent f)

    -- the premise, told by the places
    short_here : (events : List Event) (me : ℕ) → Short start (bits s) events me → ShortStep s (run start events) (seen_in start events) me
    short_here events me A g i =
        let t = told s lent f events me g in
        rw t.variable (A g (sym t.sequence ∙ i))

    -- what is seen from outside is what the places tell
    seen_step : (events : List Event) (me : ℕ) → watch_from (step me) (run start events) (seen_in start events)
        ≡ seen_in start (step me ∷ events)
    unfolding seen_in
    seen_step events me = rw start_settings (watched s lent f events me (seen_in start events))

    pub along : (events : List Event) → AllShort start (bits s) events → Stood s (run start events) (seen_in start events)
    unfolding run seen_in AllShort
    along [] A = rw (fresh_is s lent f) (record { machine = fresh_state; inv = fresh_inv s.kind s.w; means = fresh_means s z lent })
    along (begin me call values ∷ events) A =
        begin_any (run start events) (seen_in start events) me call values (run_shaped s lent f events) (along events A)
    along (step me ∷ events) A =
        subst (Stood s (run start (step me ∷ events))) (seen_step events me)
        (step_any (run start events) (seen_in start events) me (run_shaped s lent f events) (along events A.1) (short_here events me A.0)).stood

    -- what the next step answers is right, by what is seen from outside
    module _ (events : List Event) (me : ℕ) (A : AllShort start (bits s) (step me ∷ events)) where
      abbrev before : State
      before = run start events

      abbrev own : Own
      own = own_in start events me

      abbrev seen_there : Seen
      seen_there = seen_in start (step me ∷ events) (variable_of own.call)

      stepped : Stepped s before (seen_in start events) me
      unfolding AllShort
      stepped = step_any before (seen_in start events) me (run_shaped s lent f events) (along events A.1) (short_here events me A.0)

      as_told : taken (answer_of (step me) before) ≡ true
          → watch_from (step me) before (seen_in start events) (variable_at (place_of before me)) ≡ seen_there
      as_told g =
          ap (λ (seen : ℕ → Seen). seen (variable_at (place_of before me))) (seen_step events me)
          ∙ ap (seen_in start (step me ∷ events)) (told s lent f events me g).variable

      pub right_along : RightAnswer (width s.kind s.w) me seen_there (answer_of (step me) before)
      right_along =
          if_taken (width s.kind s.w) me seen_there (answer_of (step me) before)
          (λ g. subst (λ (o : Seen). RightAnswer (width s.kind s.w) me o (answer_of (step me) before)) (as_told g) stepped.right)

      pub counts_along : taken (answer_of (step me) before) ≡ true → Counts me seen_there (note_of s (step me) own (answer_of (step me) before))
      counts_along g =
          subst (λ (o : Seen). Counts me o (note_of s (step me) own (answer_of (step me) before))) (as_told g)
          (subst (Counts me (watch_from (step me) before (seen_in start events) (variable_at (place_of before me)))) (told s lent f events me g).note
          (stepped.counts g))
