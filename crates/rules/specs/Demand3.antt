-- Demand 3 of the order: why an answer is what it is. Stated over demand 2's entry rules and Figure 2's table.
use Rattle.std.specs.Prelude.{is_ok, ◌≡◌, ◌≢◌, Bool, true, false, not, List, [], ◌∷◌, ℕ, ◌-◌, ◌^◌, ◌≤◌, ◌<◌, eqb, length, get_or}
use Rattle.rules.specs.Entry.{set_up_rule}
use Rattle.rules.specs.Figure2.{Returned, content, truth}
use Rattle.rules.specs.Onlooker.{Seen, seen_in, note_of, stores}
use Rattle.rules.specs.OwnSteps.{Own, own_in, answer_of, taken, is_busy, answers_call, most_steps}
use Rattle.rules.specs.Processes.{is_idle, process_at}
use Rattle.rules.specs.Refusals.{variable_of}
use Rattle.rules.specs.Runs.{State, Event, begin, step, fresh, run}
use Rattle.rules.specs.Sizes.{bits}
use Rattle.rules.specs.Types.{Reply, Value, Witness, Yes, No, Ok, Call, Load, Validate, Store, Settings}

-- From a fresh set-up of any settings that stand, events in any order, the last of which stands first; then process `me`
-- takes a step.
pub record Turn : Type 0 where
  pub settings : Settings
  pub lent : List ℕ
  pub ready : is_ok (set_up_rule settings lent).0 ≡ true
  pub events : List Event
  pub me : ℕ

abbrev pub start : Turn → State
start t = fresh t.settings t.lent

-- the board before the step; what the step answers
abbrev pub before : Turn → State
before t = run (start t) t.events

abbrev pub answer : Turn → Reply
answer t = answer_of (step t.me) (before t)

-- what the process has begun, and the steps that it has taken of it, before this step
abbrev pub own : Turn → Own
own t = own_in (start t) t.events t.me

-- what was seen of the variable of that call, up to this step and with it
abbrev pub seen : Turn → Seen
seen t = seen_in (start t) (step t.me ∷ t.events) (variable_of (own t).call)

-- who stored there with success since the first step of the process's last load there; the last one stands first
abbrev pub since : Turn → List ℕ
since t = (seen t).since t.me

-- what Figure 2 returned to the call at the step named
abbrev pub due : Turn → Returned
due t = (seen t).due t.me

-- some process other than p is among them
pub data Another (p : ℕ) : List ℕ → Type 0 where
  here : {q : ℕ} {l : List ℕ} → q ≢ p → Another p (q ∷ l)
  there : {q : ℕ} {l : List ℕ} → Another p l → Another p (q ∷ l)

-- the most stores with success, b tag bits
abbrev pub most_stores : ℕ → ℕ
most_stores b = 2 ^ b - 2

-- no variable is stored with success more than n times, this step counted too
abbrev pub AtMost : ℕ → Turn → Type 0
AtMost n t = (x : ℕ) → x < t.settings.t → (seen_in (start t) (step t.me ∷ t.events) x).total ≤ n

-- the premise: no variable is stored with success more than 2^b - 2 times
abbrev pub Few : Turn → Type 0
Few t = AtMost (most_stores (bits t.settings)) t

-- past the first step of a load, or in a validate or a store
abbrev pub in_sequence : Call → ℕ → Bool
in_sequence (Load x) steps = not (eqb steps 0)
in_sequence (Validate x) steps = true
in_sequence (Store x) steps = true

-- A weaker premise: whenever a process takes a step in its sequence on a variable, at most 2^b - 2 stores have succeeded
-- there since the first step of its load. A process that has stopped may be overtaken any number of times.
abbrev pub Short : State → ℕ → List Event → ℕ → Type 0
Short s b events me =
    taken (answer_of (step me) (run s events)) ≡ true
    → in_sequence (own_in s events me).call (own_in s events me).steps ≡ true
    → length ((seen_in s events (variable_of (own_in s events me).call)).since me) ≤ most_stores b

unfoldable pub AllShort : State → ℕ → List Event → Type 0
AllShort s b [] = Unit {0}
AllShort s b (begin me call values ∷ events) = AllShort s b events
AllShort s b (step me ∷ events) = Short s b events me × AllShort s b events

abbrev pub InWindow : Turn → Type 0
InWindow t = AllShort (start t) (bits t.settings) (step t.me ∷ t.events)

-- what the step answers is right
pub record AnswersRight (Premise : Turn → Type 0) : Type 0 where
  -- a witness aside, each answer is the one that atomic LL, VL and SC give at the step document 01 names
  pub values_are_atomic : (t : Turn) → Premise t → (values : List ℕ) → answer t ≡ Ok (Value values) →
      (d : ℕ → ℕ) × (due t ≡ content d) × ((i : ℕ) → i < t.settings.w → get_or values i 0 ≡ d i)
  pub yes_is_atomic : (t : Turn) → Premise t → answer t ≡ Ok Yes → due t ≡ truth true
  pub no_is_atomic : (t : Turn) → Premise t → answer t ≡ Ok No → due t ≡ truth false
  -- at its successful swap, or at the step that found the difference, a store is to Figure 2's SC what it is to the board
  pub store_counts : (t : Turn) → Premise t → taken (answer t) ≡ true → (new : ℕ → ℕ) (swapped : Bool) →
      note_of t.settings (step t.me) (own t) (answer t) ≡ stores new swapped → due t ≡ truth swapped
  -- each "no" has a successful store by another process to that variable since the first step of the LL that last opened
  -- the sequence
  pub no_has_another : (t : Turn) → Premise t → answer t ≡ Ok No → Another t.me (since t)
  -- a witness names the last process that stored there since that LL's first step
  pub witness_is_last : (t : Turn) → Premise t → (q : ℕ) → answer t ≡ Ok (Witness q) →
      (rest : List ℕ) × (since t ≡ q ∷ rest)
  -- a load answers values exactly if no store to that variable succeeded between its first step and its answer
  pub values_if_none : (t : Turn) → Premise t → (values : List ℕ) → answer t ≡ Ok (Value values) → since t ≡ []
  pub witness_if_some : (t : Turn) → Premise t → (q : ℕ) → answer t ≡ Ok (Witness q) → since t ≢ []

-- whether the process is idle before the step
abbrev pub idle : Turn → Bool
idle t = is_idle (process_at (before t).board t.me).place

-- with no premise on the others, and none on tags: a call takes no more steps than its most, and has its answer by then
pub record StepsBounded : Type 0 where
  pub never_more : (t : Turn) → (own t).steps ≤ most_steps t.settings (own t).call
  pub answered_by_then : (t : Turn) → (own t).waits ≡ true → (own t).steps < most_steps t.settings (own t).call
  -- a process in a call can always take its next step
  pub never_refused : (t : Turn) → (own t).waits ≡ true → taken (answer t) ≡ true
  -- the last step of a call gives its answer and makes its process idle: no other step does, and no other answer than `busy`
  -- comes before it
  pub idle_if_answered : (t : Turn) → idle t ≡ not (own t).waits
  -- and that answer is one to the call that was begun
  pub answers_its_call : (t : Turn) → taken (answer t) ≡ true → is_busy (answer t) ≡ false → answers_call (own t).call (answer t) ≡ true

pub record Demand3 : Type 0 where
  pub answers : AnswersRight Few
  pub steps : StepsBounded

-- the same under the weaker premise
abbrev pub Demand3InWindow : Type 0
Demand3InWindow = AnswersRight InWindow
