-- What an onlooker keeps of each process: the call that it last began and the values given with it, the steps that it has
-- taken in it, and whether it waits for its answer. And how many steps a call may take.
use Rattle.std.specs.Prelude.{Bool, true, false, cond, List, [], ◌∷◌, ℕ, suc, ◌+◌, ◌*◌}
use Rattle.rules.specs.Figure2.{change}
use Rattle.rules.specs.Processes.{no_values}
use Rattle.rules.specs.Runs.{State, Event, begin, step, process_of, entry, run}
use Rattle.rules.specs.Types.{Reply, Begun, Busy, Value, Witness, Yes, No, Ok, Err, Call, Load, Validate, Store, Kind, One, Many, Settings}

abbrev pub answer_of : Event → State → Reply
answer_of event state = (entry event state).0.answer

-- the entry point took the event
abbrev pub taken : Reply → Bool
taken (Ok answer) = true
taken (Err refusal) = false

abbrev pub is_busy : Reply → Bool
is_busy (Ok Begun) = false
is_busy (Ok Busy) = true
is_busy (Ok (Value values)) = false
is_busy (Ok (Witness q)) = false
is_busy (Ok Yes) = false
is_busy (Ok No) = false
is_busy (Err refusal) = false

pub record Own : Type 0 where
  pub call : Call
  pub values : List ℕ
  pub steps : ℕ
  pub waits : Bool

-- of a process that has begun no call
abbrev pub unbegun : Own
unbegun = record { call = Load 0; values = no_values; steps = 0; waits = false }

-- after a begin, and after a step that was answered so
abbrev pub begins_own : Call → List ℕ → Own
begins_own call values = record { call = call; values = values; steps = 0; waits = true }

abbrev pub steps_own : Reply → Own → Own
steps_own answer own = record { call = own.call; values = own.values; steps = suc own.steps; waits = is_busy answer }

abbrev pub counting : Event → Reply → Own → Own
counting (begin me call values) answer own = begins_own call values
counting (step me) answer own = steps_own answer own

-- refused begins and steps are not counted; the last event stands first
unfoldable pub own_in : State → List Event → ℕ → Own
own_in start [] = λ me. unbegun
own_in start (event ∷ events) =
    cond (taken (answer_of event (run start events)))
    (change (own_in start events) (process_of event)
    (counting event (answer_of event (run start events)) (own_in start events (process_of event))))
    (own_in start events)

-- what a load answers, and what a validate or a store does
abbrev pub answers_load : Reply → Bool
answers_load (Ok Begun) = false
answers_load (Ok Busy) = false
answers_load (Ok (Value values)) = true
answers_load (Ok (Witness q)) = true
answers_load (Ok Yes) = false
answers_load (Ok No) = false
answers_load (Err refusal) = false

abbrev pub answers_test : Reply → Bool
answers_test (Ok Begun) = false
answers_test (Ok Busy) = false
answers_test (Ok (Value values)) = false
answers_test (Ok (Witness q)) = false
answers_test (Ok Yes) = true
answers_test (Ok No) = true
answers_test (Err refusal) = false

abbrev pub answers_call : Call → Reply → Bool
answers_call (Load x) answer = answers_load answer
answers_call (Validate x) answer = answers_test answer
answers_call (Store x) answer = answers_test answer

-- with W segments a load takes at most 1 + 5W steps, a validate 1, a store 2 + 6W; each call of kind `one` takes 1
abbrev pub most_steps_by : Kind → ℕ → Call → ℕ
most_steps_by One w call = 1
most_steps_by Many w (Load x) = 1 + 5 * w
most_steps_by Many w (Validate x) = 1
most_steps_by Many w (Store x) = 2 + 6 * w

abbrev pub most_steps : Settings → Call → ℕ
most_steps s call = most_steps_by s.kind s.w call
