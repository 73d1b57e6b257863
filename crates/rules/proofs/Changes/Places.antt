-- What the theorems say of a place and an answer, in document 01's words.
use mathlib.Core.Path.{◌≡◌}
use mathlib.Core.Bool.{Bool, true, false, cond, not, ◌&&◌}
use Prim.Native.Nat.{ℕ}
use Rattle.rules.specs.OwnSteps.{is_busy}
use Rattle.rules.specs.Sizes.{word_at, header_at, segment_at, announce_at}
use Rattle.rules.specs.Types.{Reply, Place, Idle, LoadReadsWord, ValidateReadsWord, StoreSwapsWord, LoadReadsHeader, ValidateReadsHeader, StoreReadsHeader, StoreAnnounces, StoreSwapsHeader, ReadsSegment, ReadsAnnounced, SwapsSegment, ReadsSegmentAgain, ReadsHeader, Settings}

-- the variable of the call
abbrev pub variable_at : Place → ℕ
variable_at Idle = 0
variable_at (LoadReadsWord x) = x
variable_at (ValidateReadsWord x) = x
variable_at (StoreSwapsWord x) = x
variable_at (LoadReadsHeader x) = x
variable_at (ValidateReadsHeader x) = x
variable_at (StoreReadsHeader x) = x
variable_at (StoreAnnounces x header i) = x
variable_at (StoreSwapsHeader x header) = x
variable_at (ReadsSegment c) = c.variable
variable_at (ReadsAnnounced c read) = c.variable
variable_at (SwapsSegment c read announced) = c.variable
variable_at (ReadsSegmentAgain c) = c.variable
variable_at (ReadsHeader c value) = c.variable

-- a is the address that a step from the place may write; the other places write nothing
abbrev pub Writes : Settings → ℕ → Place → ℕ → Type 0
Writes s me Idle a = ⊥
Writes s me (LoadReadsWord x) a = ⊥
Writes s me (ValidateReadsWord x) a = ⊥
Writes s me (StoreSwapsWord x) a = a ≡ word_at x
Writes s me (LoadReadsHeader x) a = ⊥
Writes s me (ValidateReadsHeader x) a = ⊥
Writes s me (StoreReadsHeader x) a = ⊥
Writes s me (StoreAnnounces x header i) a = a ≡ announce_at s me i
Writes s me (StoreSwapsHeader x header) a = a ≡ header_at s x
Writes s me (ReadsSegment c) a = ⊥
Writes s me (ReadsAnnounced c read) a = ⊥
Writes s me (SwapsSegment c read announced) a = a ≡ segment_at s c.variable c.segment
Writes s me (ReadsSegmentAgain c) a = ⊥
Writes s me (ReadsHeader c value) a = ⊥

-- the first step of a load
abbrev pub is_loads_first : Place → Bool
is_loads_first Idle = false
is_loads_first (LoadReadsWord x) = true
is_loads_first (ValidateReadsWord x) = false
is_loads_first (StoreSwapsWord x) = false
is_loads_first (LoadReadsHeader x) = true
is_loads_first (ValidateReadsHeader x) = false
is_loads_first (StoreReadsHeader x) = false
is_loads_first (StoreAnnounces x header i) = false
is_loads_first (StoreSwapsHeader x header) = false
is_loads_first (ReadsSegment c) = false
is_loads_first (ReadsAnnounced c read) = false
is_loads_first (SwapsSegment c read announced) = false
is_loads_first (ReadsSegmentAgain c) = false
is_loads_first (ReadsHeader c value) = false

-- a place in a store; Copy gathers nothing in a store
abbrev pub is_stores : Place → Bool
is_stores Idle = false
is_stores (LoadReadsWord x) = false
is_stores (ValidateReadsWord x) = false
is_stores (StoreSwapsWord x) = true
is_stores (LoadReadsHeader x) = false
is_stores (ValidateReadsHeader x) = false
is_stores (StoreReadsHeader x) = true
is_stores (StoreAnnounces x header i) = true
is_stores (StoreSwapsHeader x header) = true
is_stores (ReadsSegment c) = not c.gathers
is_stores (ReadsAnnounced c read) = not c.gathers
is_stores (SwapsSegment c read announced) = not c.gathers
is_stores (ReadsSegmentAgain c) = not c.gathers
is_stores (ReadsHeader c value) = not c.gathers

-- a load opens (or reopens) its sequence at its first step, witness or not; a store closes it at its answer, yes or no
abbrev pub open_after : Place → Reply → Bool → Bool
open_after l answer before = cond (is_loads_first l) true (cond (not (is_busy answer) && is_stores l) false before)
