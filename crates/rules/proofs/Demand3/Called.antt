-- All along a run each process stands in the call that it last began, as an onlooker has it: it is idle exactly if that call is
-- answered, and its place and its new values tell of the next step what the onlooker sees from outside. Assumes nothing.
use mathlib.Core.Path.{◌≡◌, refl, ap, sym, ◌∙◌, subst}
use mathlib.Core.Bool.{Bool, true, false, cond}
use mathlib.Core.List.{List}
use Prim.Native.Nat.{ℕ}
use lib.ListN.{length, get_or}
use Rattle.rules.specs.Demand3.{in_sequence}
use Rattle.rules.specs.Figure2.{change}
use Rattle.rules.specs.GoodForm.{place_fits}
use Rattle.rules.specs.Onlooker.{Seen, see, before_swap, note_by, new_values, note_of, watch}
use Rattle.rules.specs.OwnSteps.{Own, answers_call, is_busy, taken, answer_of, own_in}
use Rattle.rules.specs.Processes.{process_at}
use Rattle.rules.specs.Refusals.{sizes_check, variable_of}
use Rattle.rules.specs.Runs.{State, Event, step, fresh, run}
use Rattle.rules.specs.Steps.{step_from, process_step}
use Rattle.rules.specs.Types.{Reply, Board, Ok, Place, Idle, LoadReadsWord, ValidateReadsWord, StoreSwapsWord, LoadReadsHeader, ValidateReadsHeader, StoreReadsHeader, StoreAnnounces, StoreSwapsHeader, ReadsSegment, ReadsAnnounced, SwapsSegment, ReadsSegmentAgain, ReadsHeader, Process, Settings}
use Rattle.rules.proofs.Changes.Frame.{framed}
use Rattle.rules.proofs.Changes.Places.{variable_at}
use Rattle.rules.proofs.GoodForm.Held.{kind_one, kind_many, one_open, many_open, held, segment, segment_in, clauses}
use Rattle.rules.proofs.GoodForm.Keeps.{process_fits_lem}
use Rattle.rules.proofs.Tests.{never}
use Rattle.rules.proofs.Calls.Begun.{StandsIn, at_rest, first_stands_in, tells}
use Rattle.rules.proofs.Calls.Onward.{Placed, onward}
use Rattle.rules.proofs.Demand3.Owns.{each_own}
use Rattle.rules.proofs.Calls.Told.{place_of, note_at, sequence_at, values_at, note_from, watch_from}
use Rattle.rules.proofs.Demand3.Runs.{step_cases, state_of, as_parts, run_shaped}

-- what its place and its new values tell of a step that is taken
pub record ToldAs (s : Settings) (own : Own) (p : Process) (answer : Reply) : Type 0 where
  pub variable : variable_at p.place ≡ variable_of own.call
  pub sequence : sequence_at p.place ≡ in_sequence own.call own.steps
  pub note : note_at p.place (values_at p) answer ≡ note_by (before_swap s.kind s.w) own.call (new_values own) own.steps answer
  pub answers : is_busy answer ≡ false → answers_call own.call answer ≡ true

-- good form says what the place needs
placed : (s : Settings) (m : ℕ) (l : Place) → place_fits s m l ≡ true → Placed s l
placed s m Idle f = tt
placed s m (LoadReadsWord x) f = tt
placed s m (ValidateReadsWord x) f = tt
placed s m (StoreSwapsWord x) f = kind_one s x (one_open s m x f)
placed s m (LoadReadsHeader x) f = tt
placed s m (ValidateReadsHeader x) f = tt
placed s m (StoreReadsHeader x) f = kind_many s x (many_open s m x f)
placed s m (StoreAnnounces x header i) f = (kind_many s x (held s m x header (segment s m x header i f)), segment_in s m x header i f)
placed s m (StoreSwapsHeader x header) f = kind_many s x (held s m x header f)
placed s m (ReadsSegment c) f = tt
placed s m (ReadsAnnounced c read) f = tt
placed s m (SwapsSegment c read announced) f = tt
placed s m (ReadsSegmentAgain c) f = tt
placed s m (ReadsHeader c value) f = tt

told_by_lem : (s : Settings) (own : Own) (processes : List Process) (words : List ℕ) (me : ℕ)
    → StandsIn s own (process_at (state_of s processes words).board me)
    → taken (answer_of (step me) (state_of s processes words)) ≡ true
    → ToldAs s own (process_at (state_of s processes words).board me) (answer_of (step me) (state_of s processes words))
unfolding process_step
told_by_lem s own processes words me h =
    let board : Board = (state_of s processes words).board in
    let p : Process = process_at board me in
    step_cases (λ a. taken a.0.answer ≡ true → ToldAs s own p a.0.answer) board me words
    (λ a busy e.
    let o = onward s p me words h.begun busy
    (placed s p.opened p.place (clauses s p (process_fits_lem board words a.good me a.mine)).place) in
    let t = tells h.begun busy in
    record {
      variable = t.variable;
      sequence = t.sequence;
      note = o.note (values_at p)
          ∙ ap (λ (v : List ℕ). note_by (before_swap s.kind s.w) own.call (λ i. get_or v i 0) own.steps
          (step_from p.place s p me words).0.answer) (h.values busy);
      answers = o.answers;
    })
    (λ r e. never (sym e))

module _ (s : Settings) (lent : List ℕ) (ready : sizes_check s (length lent) ≡ Ok tt) where
  pub called : (events : List Event) (q : ℕ) → StandsIn s (own_in (fresh s lent) events q) (process_at (run (fresh s lent) events).board q)
  called =
      each_own s (StandsIn s)
      (first_stands_in s)
      (λ own p me words fits busy pos h.
      let o = onward s p me words h.begun busy (placed s p.opened p.place fits) in
      record {
        begun = o.begun;
        idle = o.idle;
        values = λ e. (framed p.place s p me words busy).own.values ∙ h.values busy;
      })
      lent ready
      (record { begun = at_rest; idle = refl; values = λ e. never e })
      (record { begun = at_rest; idle = refl; values = λ e. never e })

  module _ (events : List Event) (me : ℕ) where
    abbrev state : State
    state = run (fresh s lent) events

    abbrev own : Own
    own = own_in (fresh s lent) events me

    pub told : taken (answer_of (step me) state) ≡ true → ToldAs s own (process_at state.board me) (answer_of (step me) state)
    told =
        subst (λ (u : State). StandsIn s own (process_at u.board me) → taken (answer_of (step me) u) ≡ true
        → ToldAs s own (process_at u.board me) (answer_of (step me) u)) (sym (as_parts s state (run_shaped s lent ready events)))
        (told_by_lem s own state.board.processes state.words me) (called events me)

    -- what is seen from outside is what the places tell
    pub watched : (seen : ℕ → Seen) → watch_from (step me) state seen ≡ watch s (step me) (answer_of (step me) state) own seen
    watched seen = by (taken (answer_of (step me) state)) refl
      where
        by : (t : Bool) → taken (answer_of (step me) state) ≡ t
            → cond t (change seen (variable_at (place_of state me)) (see me (note_from (step me) state) (seen (variable_at (place_of state me))))) seen
            ≡ cond t (change seen (variable_of own.call) (see me (note_of s (step me) own (answer_of (step me) state))
            (seen (variable_of own.call)))) seen
        by true e = rw ((told e).variable, (told e).note)
        by false e = refl
