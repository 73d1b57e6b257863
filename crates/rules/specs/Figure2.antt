-- Figure 2 of source document 001: atomic LL, VL and SC, as a table of one variable. A fragment gives the table after it
-- and what it returns; p is the process that runs it.
use Rattle.std.specs.Prelude.{Bool, true, false, cond, ℕ, eqb}

-- f, with v at k
unfoldable pub change {ℓ} : {A : Type ℓ} → (ℕ → A) → ℕ → A → ℕ → A
change f k v j = cond (eqb j k) v (f j)

-- X, place by place, and validX[p] for each process p
pub record Atomic : Type 0 where
  pub current : ℕ → ℕ
  pub valid : ℕ → Bool

-- what a fragment returns
pub data Returned : Type 0 where
  nothing : Returned
  content : (ℕ → ℕ) → Returned
  truth : Bool → Returned

-- validX[p] := true; return X
abbrev pub LL : ℕ → Atomic → Atomic × Returned
LL p a = (record { current = a.current; valid = change a.valid p true }, content a.current)

-- return validX[p]
abbrev pub VL : ℕ → Atomic → Atomic × Returned
VL p a = (a, truth (a.valid p))

-- if validX[p] then X := new; for every process validX := false; return true, else return false
abbrev pub SC : ℕ → (ℕ → ℕ) → Atomic → Atomic × Returned
SC p new a = cond (a.valid p) (record { current = new; valid = λ q. false }, truth true) (a, truth false)
