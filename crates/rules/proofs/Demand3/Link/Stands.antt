-- The link from the board to the machine over versions: how a process stands in both, and what it is for a step of the
-- board to be a step of the machine. Assumes nothing.
use mathlib.Core.Path.{◌≡◌}
use mathlib.Core.Bool.{Bool, true, false, cond}
use mathlib.Core.List.{List}
use Prim.Native.Nat.{ℕ, ◌<◌}
use lib.ListN.{length, get_or}
use Rattle.rules.specs.Figure2.{change}
use Rattle.rules.specs.Figure4.{Step}
use Rattle.rules.specs.Sizes.{bits}
use Rattle.rules.specs.Types.{Reply, Busy, Ok, Value, Witness, Yes, No, Copy, Kind, One, Many, Place, Idle, LoadReadsWord, ValidateReadsWord, StoreSwapsWord, LoadReadsHeader, ValidateReadsHeader, StoreReadsHeader, StoreAnnounces, StoreSwapsHeader, ReadsSegment, ReadsAnnounced, SwapsSegment, ReadsSegmentAgain, ReadsHeader, Process, Settings}
use Rattle.rules.proofs.Demand3.Invariant.Kinds.{width}
use Rattle.rules.proofs.Calls.Told.{note_at, values_at}
use Rattle.rules.proofs.Demand3.Invariant.Many.{is_load}
use Rattle.rules.proofs.Demand3.Link.Keeping.{Held}
use Rattle.rules.proofs.Demand3.Link.Memory.{WroteK}
use Rattle.rules.proofs.Demand3.Link.Tags.{Means}
use Rattle.rules.proofs.Demand3.Machine.{Versioned, Told, busy, values, witness, sure, Aim, load, store, reads_segment, reads_announced, swaps_segment, reads_again, reads_header, Place as Stand, idle, load_reads, validate_reads, store_reads, announces, swaps_header, copies, Sequence, Core}

-- the new values, place by place
abbrev pub at_place : List ℕ → ℕ → ℕ
at_place l i = get_or l i 0

-- kind `one`: x is the variable, new the values of a store
pub data StandsOne (x : ℕ) (new : List ℕ) : Place → Stand → Type 0 where
  one_idle : StandsOne x new Idle idle
  one_load : StandsOne x new (LoadReadsWord x) load_reads
  one_validate : StandsOne x new (ValidateReadsWord x) validate_reads
  one_store : StandsOne x new (StoreSwapsWord x) (store_reads (at_place new))

abbrev pub copy_at : ℕ → ℕ → ℕ → Aim → Copy
copy_at x header i a = record { variable = x; header = header; segment = i; gathers = is_load a }

-- what a load has gathered
abbrev pub Gathered : List ℕ → Aim → Type 0
Gathered l (load g) = (length l ≡ 4) × ((j : ℕ) → get_or l j 0 ≡ g j)
Gathered l store = Unit {0}

-- kind `many`: each header and word that the place holds stands for the machine's
pub data Stands (b x : ℕ) (new gathered : List ℕ) : Place → Stand → Type 0 where
  at_idle : Stands b x new gathered Idle idle
  at_load : Stands b x new gathered (LoadReadsHeader x) load_reads
  at_validate : Stands b x new gathered (ValidateReadsHeader x) validate_reads
  at_store : Stands b x new gathered (StoreReadsHeader x) (store_reads (at_place new))
  at_announce : {header i : ℕ} {h : Versioned} → Means b header h →
      Stands b x new gathered (StoreAnnounces x header i) (announces (at_place new) h i)
  at_swap : {header : ℕ} {h : Versioned} → Means b header h → Stands b x new gathered (StoreSwapsHeader x header) (swaps_header (at_place new) h)
  at_segment : {header i : ℕ} {h : Versioned} {a : Aim} → Means b header h → Gathered gathered a →
      Stands b x new gathered (ReadsSegment (copy_at x header i a)) (copies a h i reads_segment)
  at_announced : {header i w : ℕ} {h y : Versioned} {a : Aim} → Means b header h → Gathered gathered a → Means b w y →
      Stands b x new gathered (ReadsAnnounced (copy_at x header i a) w) (copies a h i (reads_announced y))
  at_segment_swap : {header i w u : ℕ} {h y : Versioned} {a : Aim} → Means b header h → Gathered gathered a → Means b w y →
      Stands b x new gathered (SwapsSegment (copy_at x header i a) w u) (copies a h i (swaps_segment y u))
  at_again : {header i : ℕ} {h : Versioned} {a : Aim} → Means b header h → Gathered gathered a →
      Stands b x new gathered (ReadsSegmentAgain (copy_at x header i a)) (copies a h i reads_again)
  at_header : {header i u : ℕ} {h : Versioned} {a : Aim} → Means b header h → Gathered gathered a →
      Stands b x new gathered (ReadsHeader (copy_at x header i a) u) (copies a h i (reads_header u))

abbrev pub StandsK : Kind → ℕ → ℕ → List ℕ → List ℕ → Place → Stand → Type 0
StandsK One b x new gathered place stand = StandsOne x new place stand
StandsK Many b x new gathered place stand = Stands b x new gathered place stand

-- the board answers what the machine tells
pub data Says (W : ℕ) : Told → Reply → Type 0 where
  says_busy : Says W busy (Ok Busy)
  says_values : {g : ℕ → ℕ} {l : List ℕ} → ((i : ℕ) → i < W → get_or l i 0 ≡ g i) → Says W (values g) (Ok (Value l))
  says_witness : {q r : ℕ} → r ≡ q → Says W (witness q) (Ok (Witness r))
  says_yes : Says W (sure true) (Ok Yes)
  says_no : Says W (sure false) (Ok No)

pub says_sure : (W : ℕ) (t : Bool) → Says W (sure t) (Ok (cond t Yes No))
says_sure W true = says_yes
says_sure W false = says_no

-- a step of the board by process p from a place, at variable x, is the machine's step c
pub record Linked (k : Kind) (s : Settings) (p x : ℕ) (place : Place) (q : Process) (words : List ℕ) (sequences : ℕ → Sequence)
    (r : Step) (c : Core) : Type 0 where
  pub stands : StandsK k (bits s) x r.0.after.values r.0.after.gathered r.0.after.place c.place
  pub held : Held k s (change sequences x c.sequence) r.0.after.keep r.0.after.opened
  pub wrote : WroteK k s p x c.put words r.1
  pub says : Says (width k s.w) c.told r.0.answer
  pub note : note_at place (values_at q) r.0.answer ≡ c.note
