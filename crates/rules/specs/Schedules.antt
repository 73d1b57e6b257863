-- Document 01, "Schedules to prove and to run": P1 to P10, in its own numbers, under a single statement.
use Rattle.std.specs.Prelude.{◌≡◌, List, [], ◌∷◌, ◌++◌, ℕ, zero, suc, replicate}
use Prim.Native.String.{String}
use Rattle.word.specs.Packing.{pack_rule}
use Rattle.word.specs.Word.{next_tag, previous_tag}
use Rattle.rules.specs.Answers.{start_told}
use Rattle.rules.specs.Entry.{set_up_rule}
use Rattle.rules.specs.Processes.{no_values}
use Rattle.rules.specs.Runs.{State, Event, begin, step, fresh, EventRow, rows, NumberedRow, numbered_rows}
use Rattle.rules.specs.Text.{ascii}
use Rattle.rules.specs.Types.{NoOpenSequence, ValueTooGreat, ProcessIdle, Reply, Begun, Busy, Value, Witness, Yes, No, Result, Ok, Err, Refusal, Board, Load, Validate, Store, Kind, One, Many, Settings}

-- N, kind, T, b, W, as in a set-up record; lent are the most words that a board uses
abbrev pub settings : ℕ → Kind → ℕ → ℕ → ℕ → Settings
settings n kind t b w = record { kind = kind; n = n; t = t; w = w; layout = record { bits = b } }

abbrev pub lent : List ℕ
lent = replicate 144 0

abbrev pub board : ℕ → Kind → ℕ → ℕ → ℕ → State
board n kind t b w = fresh (settings n kind t b w) lent

abbrev pub start_of : ℕ → Kind → ℕ → ℕ → ℕ → Result Board Refusal
start_of n kind t b w = (set_up_rule (settings n kind t b w) lent).0

-- acts, as in a schedule record
abbrev pub ll : ℕ → ℕ → Event
ll p x = begin p (Load x) no_values

abbrev pub vl : ℕ → ℕ → Event
vl p x = begin p (Validate x) no_values

abbrev pub sc : ℕ → ℕ → ℕ → Event
sc p x v = begin p (Store x) (v ∷ 0 ∷ 0 ∷ 0 ∷ [])

-- rows, as in the printout
abbrev pub row : Reply → ℕ → List ℕ → EventRow
row answer open' numbers = record { answer = answer; open' = Ok open'; numbers = numbers }

abbrev pub begun : ℕ → EventRow
begun open' = row (Ok Begun) open' []

abbrev pub busy : ℕ → EventRow
busy open' = row (Ok Busy) open' []

-- a load's answer of one value, where W is 1
abbrev pub value_of_one : ℕ → Reply
value_of_one v = Ok (Value (v ∷ 0 ∷ 0 ∷ 0 ∷ []))

abbrev pub loaded : ℕ → ℕ → EventRow
loaded v open' = row (value_of_one v) open' (v ∷ [])

-- with its record number, process and act
abbrev pub numbered : ℕ → ℕ → String → EventRow → NumberedRow
numbered number process act r = record { number = number; process = process; act = ascii act; row = r }

-- events, or rows, over and over
abbrev pub times : {A : Type 0} → ℕ → List A → List A
times zero list = []
times (suc n) list = list ++ times n list

-- P7 and P8's board
abbrev pub small : State
small = board 2 Many 1 4 1

-- P7: process 0 loads and begins a store of 5; three steps, so the header is swapped; process 1 begins a load; two steps;
-- process 0 ends its store in four steps, loads 5 in three, begins a store of 9 and takes two steps; process 1 takes its third,
-- fourth and fifth step
abbrev pub p7_events : List Event
p7_events =
    ll 0 0 ∷ step 0 ∷ step 0 ∷ step 0 ∷ sc 0 0 5 ∷ step 0 ∷ step 0 ∷ step 0
    ∷ ll 1 0 ∷ step 1 ∷ step 1
    ∷ step 0 ∷ step 0 ∷ step 0 ∷ step 0 ∷ ll 0 0 ∷ step 0 ∷ step 0 ∷ step 0 ∷ sc 0 0 9 ∷ step 0 ∷ step 0
    ∷ step 1 ∷ step 1 ∷ step 1 ∷ []

-- P8: process 0 has loaded; process 1 takes a load's first step; process 0 stores 5, in seven steps; process 1 takes its second
abbrev pub p8_events : List Event
p8_events =
    ll 0 0 ∷ step 0 ∷ step 0 ∷ step 0 ∷ ll 1 0 ∷ step 1
    ∷ sc 0 0 5 ∷ step 0 ∷ step 0 ∷ step 0 ∷ step 0 ∷ step 0 ∷ step 0 ∷ step 0
    ∷ step 1 ∷ []

pub record Schedules : Type 0 where
  pub p1 : pack_rule 48 3 5 ≡ Ok 196613
  pub p2 : (next_tag 4 15 ≡ 0) × (previous_tag 4 0 ≡ 15)
  pub p3 : numbered_rows 1 (board 2 One 1 48 1) (ll 0 0 ∷ step 0 ∷ ll 1 0 ∷ step 1 ∷ sc 0 0 7 ∷ step 0 ∷ vl 1 0 ∷ step 1 ∷ [])
      ≡ numbered 1 0 "LL" (begun 0)
      ∷ numbered 2 0 "step" (loaded 0 1)
      ∷ numbered 3 1 "LL" (begun 0)
      ∷ numbered 4 1 "step" (loaded 0 1)
      ∷ numbered 5 0 "SC" (begun 1)
      ∷ numbered 6 0 "step" (row (Ok Yes) 0 [])
      ∷ numbered 7 1 "VL" (begun 1)
      ∷ numbered 8 1 "step" (row (Ok No) 1 [])
      ∷ []
  pub p4 :
      (rows (board 2 One 1 48 1) (ll 0 0 ∷ step 0 ∷ sc 0 0 65535 ∷ []) ≡ begun 0 ∷ loaded 0 1 ∷ begun 1 ∷ [])
      × (rows (board 2 One 1 48 1) (ll 0 0 ∷ step 0 ∷ sc 0 0 65536 ∷ [])
      ≡ begun 0 ∷ loaded 0 1 ∷ row (Err ValueTooGreat) 1 (8 ∷ []) ∷ [])
  pub p5 : rows (board 2 One 1 48 1) (vl 0 0 ∷ step 0 ∷ [])
      ≡ row (Err NoOpenSequence) 0 (7 ∷ []) ∷ row (Err ProcessIdle) 0 (9 ∷ []) ∷ []
  -- refused 1; 0 says that a set-up stands
  pub p6 :
      (start_told (start_of 2 One 1 3 1) ≡ (1, [])) × (start_told (start_of 2 One 1 49 1) ≡ (1, []))
      × (start_told (start_of 2 One 1 4 1) ≡ (0, [])) × (start_told (start_of 2 One 1 48 1) ≡ (0, []))
  -- process 1 answers 5 at its sixth step
  pub p7 : rows small (p7_events ++ (step 1 ∷ []))
      ≡ begun 0 ∷ busy 1 ∷ busy 1 ∷ loaded 0 1 ∷ begun 1 ∷ busy 1 ∷ busy 1 ∷ busy 1
      ∷ begun 0 ∷ busy 1 ∷ busy 1
      ∷ busy 1 ∷ busy 1 ∷ busy 1 ∷ row (Ok Yes) 0 [] ∷ begun 0 ∷ busy 1 ∷ busy 1 ∷ loaded 5 1 ∷ begun 1 ∷ busy 1 ∷ busy 1
      ∷ busy 1 ∷ busy 1 ∷ busy 1 ∷ loaded 5 1 ∷ []
  -- process 0 answers yes after seven steps, process 1 witness 0 at its third
  pub p8 : rows small (p8_events ++ (step 1 ∷ []))
      ≡ begun 0 ∷ busy 1 ∷ busy 1 ∷ loaded 0 1 ∷ begun 0 ∷ busy 1
      ∷ begun 1 ∷ busy 1 ∷ busy 1 ∷ busy 1 ∷ busy 1 ∷ busy 1 ∷ busy 1 ∷ row (Ok Yes) 0 []
      ∷ busy 1 ∷ row (Ok (Witness 0)) 1 (0 ∷ []) ∷ []
  pub p9 : rows (board 2 One 1 48 1) (ll 0 0 ∷ step 0 ∷ ll 1 0 ∷ step 1 ∷ sc 0 0 0 ∷ step 0 ∷ sc 1 0 0 ∷ step 1 ∷ [])
      ≡ begun 0 ∷ loaded 0 1 ∷ begun 0 ∷ loaded 0 1 ∷ begun 1 ∷ row (Ok Yes) 0 [] ∷ begun 1 ∷ row (Ok No) 0 [] ∷ []
  -- process 1 loads 0; process 0 does 16 rounds of load and store of 0; process 1's store answers yes
  pub p10 : rows (board 2 One 1 4 1)
      (ll 1 0 ∷ step 1 ∷ times 16 (ll 0 0 ∷ step 0 ∷ sc 0 0 0 ∷ step 0 ∷ []) ++ (sc 1 0 0 ∷ step 1 ∷ []))
      ≡ begun 0 ∷ loaded 0 1
      ∷ times 16 (begun 0 ∷ loaded 0 1 ∷ begun 1 ∷ row (Ok Yes) 0 [] ∷ [])
      ++ (begun 1 ∷ row (Ok Yes) 0 [] ∷ [])
