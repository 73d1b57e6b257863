-- Both kinds under one name: the invariant, what the others may do, and what is to be shown of a step. Assumes nothing.
use mathlib.Core.Path.{◌≡◌}
use mathlib.Core.Logic.{◌≢◌}
use mathlib.Core.Bool.{false}
use mathlib.Core.List.{List, [], ◌∷◌}
use Prim.Native.Nat.{ℕ, ◌<◌}
use Rattle.rules.specs.Demand3.{Another}
use Rattle.rules.specs.Figure2.{content, truth}
use Rattle.rules.specs.Onlooker.{Note, quiet, begins, loads, checks, stores, Seen}
use Rattle.rules.specs.Types.{Kind, One, Many}
use Rattle.rules.proofs.Demand3.Invariant.Many.{VarInv, Pair, Rely}
use Rattle.rules.proofs.Demand3.Invariant.One.{VarInv₁, Pair₁, Rely₁, stable₁}
use Rattle.rules.proofs.Demand3.Invariant.Stable.{stable}
use Rattle.rules.proofs.Demand3.Machine.{Told, busy, values, witness, sure, Place, Sequence, Var, Core, Out, leaves}

abbrev pub width : Kind → ℕ → ℕ
width One W = 1
width Many W = W

abbrev pub VarInvK : Kind → ℕ → Var → Type 0
VarInvK One W v = VarInv₁ v
VarInvK Many W v = VarInv W v

abbrev pub PairK : Kind → ℕ → ℕ → Var → (ℕ → ℕ) → Sequence → Place → Type 0
PairK One W p v row s pl = Pair₁ p v row s pl
PairK Many W p v row s pl = Pair W p v row s pl

abbrev pub RelyK : Kind → ℕ → ℕ → Var → Var → Type 0
RelyK One W p v v' = Rely₁ p v v'
RelyK Many W p v v' = Rely W p v v'

-- an answer to p is right, by what was seen of its variable up to the answering step
abbrev pub Right : ℕ → ℕ → Seen → Told → Type 0
Right W p o busy = Unit {0}
Right W p o (values g) = (o.since p ≡ []) × ((d : ℕ → ℕ) × (o.due p ≡ content d) × ((i : ℕ) → i < W → g i ≡ d i))
Right W p o (witness q) = (m : List ℕ) × (o.since p ≡ q ∷ m)
Right W p o (sure b) = (o.due p ≡ truth b) × (b ≡ false → Another p (o.since p))

-- at the step at which a store of p counts, Figure 2 returned whether it swapped
abbrev pub Counts : ℕ → Seen → Note → Type 0
Counts p o quiet = Unit {0}
Counts p o begins = Unit {0}
Counts p o loads = Unit {0}
Counts p o checks = Unit {0}
Counts p o (stores new swapped) = o.due p ≡ truth swapped

-- a step of p keeps the variable's invariant and its own part; the others may rely on what it did; its answer is right, and a
-- store counts as Figure 2 says
pub record FineK (k : Kind) (W : ℕ) (p : ℕ) (v : Var) (o : Out) : Type 0 where
  pub inv : VarInvK k W o.var
  pub rely : (r : ℕ) → r ≢ p → RelyK k W r v o.var
  pub pair : PairK k W p o.var o.row o.sequence o.place
  pub right : Right (width k W) p o.var.seen o.told
  pub counts : Counts p o.var.seen o.note

-- the same of what a step of p does
abbrev pub Fine : ℕ → ℕ → Var → (ℕ → ℕ → ℕ) → Core → Type 0
Fine W p v rows c = FineK Many W p v (leaves p v (rows p) c)

abbrev pub Fine₁ : ℕ → ℕ → Var → (ℕ → ℕ → ℕ) → Core → Type 0
Fine₁ W p v rows c = FineK One W p v (leaves p v (rows p) c)

-- what the others do keeps a process's part
pub stable_k : (k : Kind) (W : ℕ) (p : ℕ) (v v' : Var) → VarInvK k W v → VarInvK k W v' → RelyK k W p v v' →
    (s : Sequence) (row : ℕ → ℕ) (pl : Place) → PairK k W p v row s pl → PairK k W p v' row s pl
stable_k One W p v v' I I' R s row pl P = stable₁ p v v' s row pl R P
stable_k Many W p v v' I I' R s row pl P = stable W p v v' I I' R s row pl P
