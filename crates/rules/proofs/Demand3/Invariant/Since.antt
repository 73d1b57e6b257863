-- Who stored since a load, as a list: whether a process is among them, and who is the last. Assumes nothing.
use mathlib.Core.Path.{◌≡◌, refl}
use mathlib.Core.Logic.{◌≢◌}
use mathlib.Core.List.{List, [], ◌∷◌}
use Prim.Native.Nat.{ℕ, ◌<◌}
use native.Mathlib.Omega.{arith}
use lib.ListN.{length}
use Rattle.rules.specs.Demand3.{Another, here}

-- p is not among them
pub data Free (p : ℕ) : List ℕ → Type 0 where
  free[] : Free p []
  free∷ : {q : ℕ} {l : List ℕ} → q ≢ p → Free p l → Free p (q ∷ l)

-- q stands first, if any does
pub data Last (q : ℕ) : List ℕ → Type 0 where
  last[] : Last q []
  last∷ : {l : List ℕ} → Last q (q ∷ l)

-- p is not among them, so that another is
pub some_other : (p : ℕ) (l : List ℕ) → Free p l → 0 < length l → Another p l
some_other p [] free[] h = absurd (omega arith)
some_other p (q ∷ l) (free∷ n f) h = here n

pub empty : (l : List ℕ) → length l ≡ 0 → l ≡ []
empty [] e = refl
empty (q ∷ l) e = absurd (omega arith)

pub first : (q : ℕ) (l : List ℕ) → Last q l → 0 < length l → (m : List ℕ) × (l ≡ q ∷ m)
first q [] last[] h = absurd (omega arith)
first q (r ∷ l) last∷ h = (l, refl)
