-- Kind `many`: the invariant of one variable, and of one process at it; what the others may do to it. Assumes nothing.
use mathlib.Core.Path.{◌≡◌}
use mathlib.Core.Logic.{◌≢◌, ◌⊎◌}
use mathlib.Core.Bool.{Bool, true, false}
use mathlib.Core.List.{◌∷◌}
use Prim.Native.Nat.{ℕ, suc, ◌+◌, ◌≤◌, ◌<◌}
use lib.Dec.{eqb}
use lib.ListN.{length}
use Rattle.rules.specs.Figure2.{content, truth}
use Rattle.rules.proofs.Demand3.Invariant.Since.{Free, Last}
use Rattle.rules.proofs.Demand3.Machine.{Versioned, Phase, reads_segment, reads_announced, swaps_segment, reads_again, reads_header, Aim, load, store, Place, idle, load_reads, validate_reads, store_reads, announces, swaps_header, copies, Sequence, Var}

abbrev pub is_load : Aim → Bool
is_load (load g) = true
is_load store = false

abbrev pub is_store : Aim → Bool
is_store (load g) = false
is_store store = true

-- Copy in a store, with the header w
abbrev pub Owns : Versioned → Aim → Versioned → Type 0
Owns w (load g) h = ⊥
Owns w store h = h ≡ w

-- in a load
abbrev pub loading : Place → Bool
loading idle = false
loading load_reads = true
loading validate_reads = false
loading (store_reads new) = false
loading (announces new h i) = false
loading (swaps_header new h) = false
loading (copies a h i ph) = is_load a

-- in a store's Copy
abbrev pub storing : Place → Bool
storing idle = false
storing load_reads = false
storing validate_reads = false
storing (store_reads new) = false
storing (announces new h i) = false
storing (swaps_header new h) = false
storing (copies a h i ph) = is_store a

-- in a store's Copy, with the header w
abbrev pub Storing : Versioned → Place → Type 0
Storing w idle = ⊥
Storing w load_reads = ⊥
Storing w validate_reads = ⊥
Storing w (store_reads new) = ⊥
Storing w (announces new h i) = ⊥
Storing w (swaps_header new h) = ⊥
Storing w (copies a h i ph) = Owns w a h

-- a variable
pub record VarInv (W : ℕ) (v : Var) : Type 0 where
  -- each segment's version is the header's or the one before, and its value is what was stored at its version
  pub lo : (i : ℕ) → i < W → v.header.version ≤ suc (v.segment i).version
  pub hi : (i : ℕ) → i < W → (v.segment i).version ≤ v.header.version
  pub kin : (i : ℕ) → i < W → (v.segment i).value ≡ v.stored (v.segment i).version i
  -- the header names who stored last
  pub who : v.header.value ≡ v.storer v.header.version
  -- Figure 2's variable holds what was stored last; the header's version counts the successful stores
  pub now : v.seen.atomic.current ≡ v.stored v.header.version
  pub sum : v.seen.total ≡ v.header.version

-- an open sequence of p
pub record Opened (W p : ℕ) (v : Var) (s : Sequence) (pl : Place) : Type 0 where
  -- the header's version, and every segment's but in a load, is the kept one or a later
  pub old : s.kept ≤ v.header.version
  pub full : loading pl ≡ false → (i : ℕ) → i < W → s.kept ≤ (v.segment i).version
  -- the stores since the load's first step make up the difference; the last of them is the header's process, and none is
  -- p's but in the Copy of p's own store
  pub count : length (v.seen.since p) + s.kept ≡ v.header.version
  pub last : Last v.header.value (v.seen.since p)
  pub others : storing pl ≡ false → Free p (v.seen.since p)
  -- Figure 2's valid says that there were none
  pub valid : v.seen.atomic.valid p ≡ eqb v.header.version s.kept

-- Copy has read y of segment i, of the version before its header's
pub record Phased (v : Var) (h : Versioned) (i : ℕ) (y : Versioned) : Type 0 where
  pub prev : suc y.version ≡ h.version
  pub kin : y.value ≡ v.stored y.version i

-- Copy has the value y of segment i: what was stored at some version from its header's on; the segment lags no more
pub record Checked (v : Var) (h : Versioned) (i : ℕ) (y : ℕ) : Type 0 where
  pub here' : h.version ≤ (v.segment i).version
  pub read : ℕ
  pub lo : h.version ≤ read
  pub hi : read ≤ v.header.version
  pub kin : y ≡ v.stored read i

-- before the swap: if the segment lags still, the announced value is what was stored
abbrev pub PhaseOk : Var → Versioned → ℕ → Phase → Type 0
PhaseOk v h i reads_segment = Unit {0}
PhaseOk v h i (reads_announced y) = Phased v h i y
PhaseOk v h i (swaps_segment y z) = Phased v h i y × (suc (v.segment i).version ≡ h.version → z ≡ v.stored h.version i)
PhaseOk v h i reads_again = h.version ≤ (v.segment i).version
PhaseOk v h i (reads_header y) = Checked v h i y

-- Copy in a load: the header's version is the kept one; what was gathered, and is due, was stored at it
pub record Loads (p : ℕ) (v : Var) (s : Sequence) (h : Versioned) (i : ℕ) (g : ℕ → ℕ) : Type 0 where
  pub from : s.kept ≡ h.version
  pub got : (j : ℕ) → j < i → g j ≡ v.stored h.version j
  pub due : v.seen.due p ≡ content (v.stored h.version)

-- Copy in a store: the header names p, the announce row holds what was stored at its version, and a yes is due
pub record Stores (W p : ℕ) (v : Var) (row : ℕ → ℕ) (s : Sequence) (h : Versioned) : Type 0 where
  pub mine : h.value ≡ p
  pub from : s.kept ≤ h.version
  pub told : (j : ℕ) → j < W → row j ≡ v.stored h.version j
  pub due : v.seen.due p ≡ truth true

abbrev pub AimOk : ℕ → ℕ → Var → (ℕ → ℕ) → Sequence → Versioned → ℕ → Aim → Type 0
AimOk W p v row s h i (load g) = Loads p v s h i g
AimOk W p v row s h i store = Stores W p v row s h

-- Copy at segment i with the header h: no segment before i lags behind h
pub record Copying (W p : ℕ) (v : Var) (row : ℕ → ℕ) (s : Sequence) (a : Aim) (h : Versioned) (i : ℕ) : Type 0 where
  pub open' : s.opened ≡ true
  pub in' : i < W
  pub old : h.version ≤ v.header.version
  pub who : h.value ≡ v.storer h.version
  pub done : (j : ℕ) → j < i → h.version ≤ (v.segment j).version
  pub aim : AimOk W p v row s h i a

-- a store before its swap: the header read has the kept version, and the first n new values are announced
pub record Telling (p : ℕ) (v : Var) (row : ℕ → ℕ) (s : Sequence) (new : ℕ → ℕ) (h : Versioned) (n : ℕ) : Type 0 where
  pub open' : s.opened ≡ true
  pub from : h.version ≡ s.kept
  pub who : h.value ≡ v.storer h.version
  pub told : (j : ℕ) → j < n → row j ≡ new j

-- what holds at each place
abbrev pub Doing : ℕ → ℕ → Var → (ℕ → ℕ) → Sequence → Place → Type 0
Doing W p v row s idle = Unit {0}
Doing W p v row s load_reads = Unit {0}
Doing W p v row s validate_reads = s.opened ≡ true
Doing W p v row s (store_reads new) = s.opened ≡ true
Doing W p v row s (announces new h i) = (i < W) × Telling p v row s new h i
Doing W p v row s (swaps_header new h) = Telling p v row s new h W
Doing W p v row s (copies a h i ph) = Copying W p v row s a h i × PhaseOk v h i ph

-- process p at the variable v
pub record Pair (W p : ℕ) (v : Var) (row : ℕ → ℕ) (s : Sequence) (pl : Place) : Type 0 where
  pub seq : s.opened ≡ true → Opened W p v s pl
  -- if the header names p and a segment lags, p is in its store's Copy with exactly that header
  pub lag : (i : ℕ) → i < W → v.header.value ≡ p → suc (v.segment i).version ≡ v.header.version → Storing v.header pl
  pub doing : Doing W p v row s pl

-- what p may see happen to a variable by another's step: the header stays
pub record Stays (p : ℕ) (v v' : Var) : Type 0 where
  pub header : v'.header ≡ v.header
  pub since : v'.seen.since p ≡ v.seen.since p
  pub valid : v'.seen.atomic.valid p ≡ v.seen.atomic.valid p

-- or another's store succeeds
pub record Moves (p : ℕ) (v v' : Var) : Type 0 where
  pub by : v'.header.value ≢ p
  pub up : v'.header.version ≡ suc v.header.version
  pub since : v'.seen.since p ≡ v'.header.value ∷ v.seen.since p
  pub valid : v'.seen.atomic.valid p ≡ false

-- in either case segments only grow, the history stays, and so does what is due to p
pub record Rely (W p : ℕ) (v v' : Var) : Type 0 where
  pub grow : (i : ℕ) → i < W → (v.segment i).version ≤ (v'.segment i).version
  pub kept : (w : ℕ) → w ≤ v.header.version → v'.stored w ≡ v.stored w
  pub names : (w : ℕ) → w ≤ v.header.version → v'.storer w ≡ v.storer w
  pub owes : v'.seen.due p ≡ v.seen.due p
  pub head : Stays p v v' ⊎ Moves p v v'
