-- What the place of a process tells of its call: a means of proof. The claim goes by what an onlooker sees from outside; `Begun`
-- shows that a place tells the same.
use mathlib.Core.Bool.{Bool, true, false, cond, not}
use Prim.Native.Nat.{ℕ}
use lib.ListN.{get_or}
use Rattle.rules.specs.Figure2.{change}
use Rattle.rules.specs.Onlooker.{Note, quiet, begins, loads, checks, stores, is_no, Seen, see}
use Rattle.rules.specs.OwnSteps.{taken, answer_of}
use Rattle.rules.specs.Processes.{process_at}
use Rattle.rules.specs.Refusals.{variable_of}
use Rattle.rules.specs.Runs.{State, Event, begin, step, process_of}
use Rattle.rules.specs.Types.{Reply, Place, Idle, LoadReadsWord, ValidateReadsWord, StoreSwapsWord, LoadReadsHeader, ValidateReadsHeader, StoreReadsHeader, StoreAnnounces, StoreSwapsHeader, ReadsSegment, ReadsAnnounced, SwapsSegment, ReadsSegmentAgain, ReadsHeader, Process}
use Rattle.rules.proofs.Changes.Places.{variable_at}

abbrev pub place_of : State → ℕ → Place
place_of state me = (process_at state.board me).place

-- what a step from a place is for its call, by its answer
abbrev pub note_at : Place → (ℕ → ℕ) → Reply → Note
note_at Idle new answer = quiet
note_at (LoadReadsWord x) new answer = loads
note_at (ValidateReadsWord x) new answer = checks
note_at (StoreSwapsWord x) new answer = stores new (not (is_no answer))
note_at (LoadReadsHeader x) new answer = loads
note_at (ValidateReadsHeader x) new answer = checks
note_at (StoreReadsHeader x) new answer = cond (is_no answer) (stores new false) quiet
note_at (StoreAnnounces x header i) new answer = quiet
note_at (StoreSwapsHeader x header) new answer = stores new (not (is_no answer))
note_at (ReadsSegment c) new answer = quiet
note_at (ReadsAnnounced c read) new answer = quiet
note_at (SwapsSegment c read announced) new answer = quiet
note_at (ReadsSegmentAgain c) new answer = quiet
note_at (ReadsHeader c value) new answer = quiet

-- past the first step of a load, or in a validate or a store
abbrev pub sequence_at : Place → Bool
sequence_at Idle = false
sequence_at (LoadReadsWord x) = false
sequence_at (ValidateReadsWord x) = true
sequence_at (StoreSwapsWord x) = true
sequence_at (LoadReadsHeader x) = false
sequence_at (ValidateReadsHeader x) = true
sequence_at (StoreReadsHeader x) = true
sequence_at (StoreAnnounces x header i) = true
sequence_at (StoreSwapsHeader x header) = true
sequence_at (ReadsSegment c) = true
sequence_at (ReadsAnnounced c read) = true
sequence_at (SwapsSegment c read announced) = true
sequence_at (ReadsSegmentAgain c) = true
sequence_at (ReadsHeader c value) = true

-- the new values of a store, place by place
abbrev pub values_at : Process → ℕ → ℕ
values_at p i = get_or p.values i 0

abbrev pub variable_from : Event → State → ℕ
variable_from (begin me call values) state = variable_of call
variable_from (step me) state = variable_at (place_of state me)

abbrev pub note_from : Event → State → Note
note_from (begin me call values) state = begins
note_from (step me) state = note_at (place_of state me) (values_at (process_at state.board me)) (answer_of (step me) state)

-- what is seen, told by the places
abbrev pub watch_from : Event → State → (ℕ → Seen) → ℕ → Seen
watch_from event state seen =
    cond (taken (answer_of event state))
    (change seen (variable_from event state) (see (process_of event) (note_from event state) (seen (variable_from event state))))
    seen
