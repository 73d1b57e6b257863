-- Where a process may stand in its call after so many of its steps; that a begin puts it there; and that its place tells the
-- variable of the call and whether it is in its sequence. Assumes nothing.
use mathlib.Core.Path.{◌≡◌, refl, sym, ap, ◌∙◌}
use mathlib.Core.Bool.{Bool, true, false, not}
use mathlib.Core.List.{List}
use Prim.Native.Nat.{ℕ, ◌+◌, ◌<◌}
use native.Mathlib.Omega.{arith}
use borrow.Author.Tests.{ne_eqb}
use Rattle.rules.specs.Demand3.{in_sequence}
use Rattle.rules.specs.OwnSteps.{Own, begins_own}
use Rattle.rules.specs.Processes.{is_idle}
use Rattle.rules.specs.Refusals.{variable_of}
use Rattle.rules.specs.Steps.{first_place, beginning}
use Rattle.rules.specs.Types.{Copy, Call, Load, Validate, Store, Kind, One, Many, Place, Idle, LoadReadsWord, ValidateReadsWord, StoreSwapsWord, LoadReadsHeader, ValidateReadsHeader, StoreReadsHeader, StoreAnnounces, StoreSwapsHeader, ReadsSegment, ReadsAnnounced, SwapsSegment, ReadsSegmentAgain, ReadsHeader, Process, Settings}
use Rattle.rules.proofs.Calls.Told.{sequence_at}
use Rattle.rules.proofs.Changes.Places.{variable_at}
use Rattle.rules.proofs.Tests.{never}

-- a place in Copy, and where Copy is there
abbrev pub is_copying : Place → Bool
is_copying Idle = false
is_copying (LoadReadsWord x) = false
is_copying (ValidateReadsWord x) = false
is_copying (StoreSwapsWord x) = false
is_copying (LoadReadsHeader x) = false
is_copying (ValidateReadsHeader x) = false
is_copying (StoreReadsHeader x) = false
is_copying (StoreAnnounces x header i) = false
is_copying (StoreSwapsHeader x header) = false
is_copying (ReadsSegment c) = true
is_copying (ReadsAnnounced c read) = true
is_copying (SwapsSegment c read announced) = true
is_copying (ReadsSegmentAgain c) = true
is_copying (ReadsHeader c value) = true

abbrev nowhere : Copy
nowhere = record { variable = 0; header = 0; segment = 0; gathers = false }

abbrev pub copy_in : Place → Copy
copy_in Idle = nowhere
copy_in (LoadReadsWord x) = nowhere
copy_in (ValidateReadsWord x) = nowhere
copy_in (StoreSwapsWord x) = nowhere
copy_in (LoadReadsHeader x) = nowhere
copy_in (ValidateReadsHeader x) = nowhere
copy_in (StoreReadsHeader x) = nowhere
copy_in (StoreAnnounces x header i) = nowhere
copy_in (StoreSwapsHeader x header) = nowhere
copy_in (ReadsSegment c) = c
copy_in (ReadsAnnounced c read) = c
copy_in (SwapsSegment c read announced) = c
copy_in (ReadsSegmentAgain c) = c
copy_in (ReadsHeader c value) = c

-- Copy at variable x: of a load, which gathers, past its first step; of a store, past its swap of the header
pub data Copies (w : ℕ) : Call → ℕ → ℕ → Bool → Type 0 where
  in_load : {x steps : ℕ} → 0 < steps → Copies w (Load x) steps x true
  in_store : {x steps : ℕ} → 1 + w < steps → Copies w (Store x) steps x false

-- where a process may stand in a call after so many of its steps; w segments
pub data Begun (w : ℕ) : Call → ℕ → Place → Type 0 where
  at_rest : {call : Call} {steps : ℕ} → Begun w call steps Idle
  loads_word : {x : ℕ} → Begun w (Load x) 0 (LoadReadsWord x)
  validates_word : {x : ℕ} → Begun w (Validate x) 0 (ValidateReadsWord x)
  stores_word : {x : ℕ} → Begun w (Store x) 0 (StoreSwapsWord x)
  loads_header : {x : ℕ} → Begun w (Load x) 0 (LoadReadsHeader x)
  validates_header : {x : ℕ} → Begun w (Validate x) 0 (ValidateReadsHeader x)
  stores_header : {x : ℕ} → Begun w (Store x) 0 (StoreReadsHeader x)
  announces : {x h i steps : ℕ} → steps ≡ 1 + i → Begun w (Store x) steps (StoreAnnounces x h i)
  swaps : {x h steps : ℕ} → steps ≡ 1 + w → Begun w (Store x) steps (StoreSwapsHeader x h)
  copies : {call : Call} {steps : ℕ} {l : Place} → is_copying l ≡ true → Copies w call steps (copy_in l).variable (copy_in l).gathers
      → Begun w call steps l

first_begun : (k : Kind) (w : ℕ) (call : Call) → Begun w call 0 (first_place k call)
first_begun One w (Load x) = loads_word
first_begun One w (Validate x) = validates_word
first_begun One w (Store x) = stores_word
first_begun Many w (Load x) = loads_header
first_begun Many w (Validate x) = validates_header
first_begun Many w (Store x) = stores_header

first_busy : (k : Kind) (call : Call) → is_idle (first_place k call) ≡ false
first_busy One (Load x) = refl
first_busy One (Validate x) = refl
first_busy One (Store x) = refl
first_busy Many (Load x) = refl
first_busy Many (Validate x) = refl
first_busy Many (Store x) = refl

-- a process stands in the call that it last began, with the values given; it is idle exactly if it waits for no answer
pub record StandsIn (s : Settings) (own : Own) (p : Process) : Type 0 where
  pub begun : Begun s.w own.call own.steps p.place
  pub idle : is_idle p.place ≡ not own.waits
  pub values : is_idle p.place ≡ false → p.values ≡ own.values

pub first_stands_in : (s : Settings) (call : Call) (values : List ℕ) (p : Process) → StandsIn s (begins_own call values) (beginning s call values p)
first_stands_in s call values p =
    record { begun = first_begun s.kind s.w call; idle = first_busy s.kind call; values = λ e. refl }

-- the place tells the variable of the call, and whether it is in its sequence
pub record Tells (call : Call) (steps : ℕ) (l : Place) : Type 0 where
  pub variable : variable_at l ≡ variable_of call
  pub sequence : sequence_at l ≡ in_sequence call steps

-- in Copy
in_copy : (l : Place) → is_copying l ≡ true → (variable_at l ≡ (copy_in l).variable) × (sequence_at l ≡ true)
in_copy Idle e = never (sym e)
in_copy (LoadReadsWord x) e = never (sym e)
in_copy (ValidateReadsWord x) e = never (sym e)
in_copy (StoreSwapsWord x) e = never (sym e)
in_copy (LoadReadsHeader x) e = never (sym e)
in_copy (ValidateReadsHeader x) e = never (sym e)
in_copy (StoreReadsHeader x) e = never (sym e)
in_copy (StoreAnnounces x header i) e = never (sym e)
in_copy (StoreSwapsHeader x header) e = never (sym e)
in_copy (ReadsSegment c) e = (refl, refl)
in_copy (ReadsAnnounced c read) e = (refl, refl)
in_copy (SwapsSegment c read announced) e = (refl, refl)
in_copy (ReadsSegmentAgain c) e = (refl, refl)
in_copy (ReadsHeader c value) e = (refl, refl)

copy_call : {w : ℕ} {call : Call} {x steps : ℕ} {g : Bool} → Copies w call steps x g → (x ≡ variable_of call) × (true ≡ in_sequence call steps)
copy_call (in_load {steps = n} h) = (refl, ap not (sym (ne_eqb n 0 (omega arith))))
copy_call (in_store h) = (refl, refl)

pub tells : {w : ℕ} {call : Call} {steps : ℕ} {l : Place} → Begun w call steps l → is_idle l ≡ false → Tells call steps l
tells at_rest busy = never busy
tells loads_word busy = record { variable = refl; sequence = refl }
tells validates_word busy = record { variable = refl; sequence = refl }
tells stores_word busy = record { variable = refl; sequence = refl }
tells loads_header busy = record { variable = refl; sequence = refl }
tells validates_header busy = record { variable = refl; sequence = refl }
tells stores_header busy = record { variable = refl; sequence = refl }
tells (announces e) busy = record { variable = refl; sequence = refl }
tells (swaps e) busy = record { variable = refl; sequence = refl }
tells (copies {l = l} e h) busy =
    let at = in_copy l e in
    let of = copy_call h in
    record { variable = at.0 ∙ of.0; sequence = at.1 ∙ of.1 }
