-- An onlooker of a run. For each variable it moves Figure 2's table at the steps that document 01 names under "Atomic
-- answers", and writes down who stored there. It goes by what can be seen from outside: what each process has begun, how
-- many steps it has taken since, and what the entry rule answered. It looks into no board.
use Rattle.std.specs.Prelude.{Bool, true, false, cond, List, [], ◌∷◌, ℕ, suc, ◌+◌, eqb, get_or}
use Rattle.rules.specs.Figure2.{change, Atomic, Returned, nothing, LL, VL, SC}
use Rattle.rules.specs.OwnSteps.{Own, answer_of, taken, own_in}
use Rattle.rules.specs.Refusals.{variable_of}
use Rattle.rules.specs.Runs.{State, Event, begin, step, process_of, run}
use Rattle.rules.specs.Types.{Reply, Begun, Busy, Value, Witness, Yes, No, Ok, Err, Call, Load, Validate, Store, Kind, One, Many, Settings}

-- what was seen of one variable
pub record Seen : Type 0 where
  -- Figure 2's table
  pub atomic : Atomic
  -- since p: who stored there with success since the first step of p's last load there; the last one stands first
  pub since : ℕ → List ℕ
  -- the successful stores in all
  pub total : ℕ
  -- due p: what Figure 2 returned to p's call there, once the step at which it counts is taken
  pub due : ℕ → Returned

-- of a fresh board
abbrev pub unseen : Seen
unseen =
    record {
      atomic = record { current = λ i. 0; valid = λ p. false };
      since = λ p. [];
      total = 0;
      due = λ p. nothing;
    }

-- what an event is for its call: its begin; the step at which a load, a validate, or a store of new values counts, and
-- whether the store swapped; or none of these
pub data Note : Type 0 where
  quiet begins loads checks : Note
  stores : (ℕ → ℕ) → Bool → Note

-- p's part in an event, seen at its variable
abbrev pub see : ℕ → Note → Seen → Seen
see p quiet o = o
see p begins o = record { atomic = o.atomic; since = o.since; total = o.total; due = change o.due p nothing }
see p loads o =
    record {
      atomic = (LL p o.atomic).0;
      since = change o.since p [];
      total = o.total;
      due = change o.due p (LL p o.atomic).1;
    }
see p checks o =
    record {
      atomic = (VL p o.atomic).0;
      since = o.since;
      total = o.total;
      due = change o.due p (VL p o.atomic).1;
    }
see p (stores new true) o =
    record {
      atomic = (SC p new o.atomic).0;
      since = λ q. p ∷ o.since q;
      total = suc o.total;
      due = change o.due p (SC p new o.atomic).1;
    }
see p (stores new false) o =
    record {
      atomic = (SC p new o.atomic).0;
      since = o.since;
      total = o.total;
      due = change o.due p (SC p new o.atomic).1;
    }

abbrev pub is_no : Reply → Bool
is_no (Ok Begun) = false
is_no (Ok Busy) = false
is_no (Ok (Value values)) = false
is_no (Ok (Witness q)) = false
is_no (Ok Yes) = false
is_no (Ok No) = true
is_no (Err refusal) = false

-- the steps that a store takes before its swap of the word or header: of kind `many` it reads the header and announces its
-- W values first
abbrev pub before_swap : Kind → ℕ → ℕ
before_swap One w = 0
before_swap Many w = 1 + w

-- what a step is for its call, by the new values, the steps taken before it and its answer. A load counts at its first step; a
-- validate at its only step; a store at its successful swap of the word or header, or at the step that found the difference
-- and answers no
abbrev pub note_by : ℕ → Call → (ℕ → ℕ) → ℕ → Reply → Note
note_by before (Load x) new steps answer = cond (eqb steps 0) loads quiet
note_by before (Validate x) new steps answer = checks
note_by before (Store x) new steps answer =
    cond (is_no answer) (stores new false) (cond (eqb steps before) (stores new true) quiet)

-- the values given with the call, place by place
abbrev pub new_values : Own → ℕ → ℕ
new_values own i = get_or own.values i 0

-- own is what was kept of the event's process before it
abbrev pub note_of : Settings → Event → Own → Reply → Note
note_of s (begin me call values) own answer = begins
note_of s (step me) own answer = note_by (before_swap s.kind s.w) own.call (new_values own) own.steps answer

abbrev pub variable_in : Event → Own → ℕ
variable_in (begin me call values) own = variable_of call
variable_in (step me) own = variable_of own.call

-- an event that the board refuses is not seen
abbrev pub watch : Settings → Event → Reply → Own → (ℕ → Seen) → ℕ → Seen
watch s event answer own seen =
    cond (taken answer)
    (change seen (variable_in event own) (see (process_of event) (note_of s event own answer) (seen (variable_in event own))))
    seen

-- what was seen of each variable in the events, the last of which stands first
unfoldable pub seen_in : State → List Event → ℕ → Seen
seen_in start [] = λ x. unseen
seen_in start (event ∷ events) =
    watch start.board.settings event (answer_of event (run start events)) (own_in start events (process_of event))
    (seen_in start events)
