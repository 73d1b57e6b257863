-- Runs that demand 3 speaks of: P7's and P8's of document 01, two with exactly 2^b - 2 successful stores at b = 4, and one
-- with 2^b - 1 that shows the premise to be tight.
use Rattle.std.specs.Prelude.{is_ok, true, ◌≡◌, List, [], ◌∷◌, ◌++◌, ℕ, ◌-◌, ◌^◌, replicate}
use Rattle.rules.specs.Demand3.{Turn, start, answer, AtMost, Few, AnswersRight}
use Rattle.rules.specs.Entry.{set_up_rule}
use Rattle.rules.specs.Onlooker.{seen_in}
use Rattle.rules.specs.OwnSteps.{own_in}
use Rattle.rules.specs.Runs.{Event, step}
use Rattle.rules.specs.Schedules.{settings, value_of_one, ll, sc, times, p7_events, p8_events}
use Rattle.rules.specs.Sizes.{bits}
use Rattle.rules.specs.Types.{Reply, Witness, Yes, Ok, Call, Load, Store, One, Many, Settings}

-- a schedule lists its events in the order of time; a turn wants the last first
unfoldable pub backwards : List Event → List Event → List Event
backwards [] done = done
backwards (event ∷ events) done = backwards events (event ∷ done)

-- four words are what these boards use at most
abbrev pub turn_of : (s : Settings) → is_ok (set_up_rule s (replicate 4 0)).0 ≡ true → List Event → ℕ → Turn
turn_of s ready events me = record { settings = s; lent = replicate 4 0; ready = ready; events = backwards events []; me = me }

-- after these events the step of `me` gives this answer, with so many stores; and the premise is met
pub record Meets (s : Settings) (events : List Event) (me stores : ℕ) (a : Reply) : Type 0 where
  pub ready : is_ok (set_up_rule s (replicate 4 0)).0 ≡ true
  pub few : Few (turn_of s ready events me)
  pub total : (seen_in (start (turn_of s ready events me)) (step me ∷ (turn_of s ready events me).events) 0).total ≡ stores
  pub answers : answer (turn_of s ready events me) ≡ a

-- after these events the step of `me` gives this answer to this call, at so many steps of its own
pub record TakesSteps (s : Settings) (events : List Event) (me : ℕ) (a : Reply) (call : Call) (steps : ℕ) : Type 0 where
  pub ready : is_ok (set_up_rule s (replicate 4 0)).0 ≡ true
  pub answers : answer (turn_of s ready events me) ≡ a
  pub its : (own_in (start (turn_of s ready events me)) (step me ∷ (turn_of s ready events me).events) me).call ≡ call
  pub took : (own_in (start (turn_of s ready events me)) (step me ∷ (turn_of s ready events me).events) me).steps ≡ steps

abbrev pub one4 : Settings
one4 = settings 2 One 1 4 1

abbrev pub many4 : Settings
many4 = settings 2 Many 1 4 1

-- process 0 loads and stores v, answered: kind `one`, and kind `many` with one segment
abbrev pub round_one : ℕ → List Event
round_one v = ll 0 0 ∷ step 0 ∷ sc 0 0 v ∷ step 0 ∷ []

abbrev pub round_many : ℕ → List Event
round_many v =
    ll 0 0 ∷ step 0 ∷ step 0 ∷ step 0
    ∷ sc 0 0 v ∷ step 0 ∷ step 0 ∷ step 0 ∷ step 0 ∷ step 0 ∷ step 0 ∷ step 0 ∷ []

-- process 1 takes a load's first step, 14 stores follow, and it goes on
abbrev pub overtaken : List Event
overtaken = ll 1 0 ∷ step 1 ∷ times 14 (round_many 5) ++ (step 1 ∷ [])

-- process 0's fourteenth store swaps at the next step
abbrev pub fourteenth : List Event
fourteenth = times 13 (round_one 5) ++ (ll 0 0 ∷ step 0 ∷ sc 0 0 5 ∷ [])

-- Process 1 takes a load's first step. Process 0 stores 5 fifteen times, then loads and announces 9 for a store that it
-- never swaps. The segment's tag is now the one before that of process 1's header: process 1 puts 9 there, and its load
-- ends with a witness. It loads again, and would answer 9.
abbrev pub one_more : List Event
one_more =
    ll 1 0 ∷ step 1 ∷ times 15 (round_many 5)
    ++ (ll 0 0 ∷ step 0 ∷ step 0 ∷ step 0 ∷ sc 0 0 9 ∷ step 0 ∷ step 0
    ∷ step 1 ∷ step 1 ∷ step 1 ∷ step 1 ∷ ll 1 0 ∷ step 1 ∷ step 1 ∷ [])

-- process 0's store has swapped the header and read the segment; process 1's load swaps the segment; so process 0's own
-- swap of it fails, and it reads it again
abbrev pub helped : List Event
helped =
    ll 0 0 ∷ step 0 ∷ step 0 ∷ step 0 ∷ sc 0 0 5 ∷ step 0 ∷ step 0 ∷ step 0 ∷ step 0
    ∷ ll 1 0 ∷ step 1 ∷ step 1 ∷ step 1 ∷ step 1
    ∷ step 0 ∷ step 0 ∷ step 0 ∷ []

-- the premise with one store more
abbrev pub FewButOne : Turn → Type 0
FewButOne t = AtMost (2 ^ bits t.settings - 1) t

pub record Demand3Runs : Type 0 where
  pub p7_meets : Meets many4 p7_events 1 1 (value_of_one 5)
  pub p8_meets : Meets many4 p8_events 1 1 (Ok (Witness 0))
  pub overtaken_meets : Meets many4 overtaken 1 14 (Ok (Witness 0))
  pub fourteenth_meets : Meets one4 fourteenth 0 14 (Ok Yes)
  -- the step bounds are met: P7's load takes 1 + 5W, a store that another has helped takes 2 + 6W
  pub slowest_load : TakesSteps many4 p7_events 1 (value_of_one 5) (Load 0) 6
  pub slowest_store : TakesSteps many4 helped 0 (Ok Yes) (Store 0) 8
  -- with 2^b - 1 stores demand 3 is false
  pub tight : AnswersRight FewButOne → ⊥
