-- Functions from numbers, changed at one place. Assumes nothing.
use mathlib.Core.Path.{◌≡◌, refl, ap, fun_ext}
use mathlib.Core.Logic.{◌≢◌}
use mathlib.Core.Bool.{Bool, true, false, cond}
use Prim.Native.Nat.{ℕ}
use lib.Dec.{eqb}
use borrow.Author.Tests.{eqb-true, eqb-false, eq-eqb, ne_eqb}
use Rattle.rules.specs.Figure2.{change}

pub change_same {ℓ} : {A : Type ℓ} (f : ℕ → A) (k : ℕ) (v : A) → change f k v k ≡ v
unfolding change
change_same f k v = ap (λ b. cond b v (f k)) (eq-eqb k k refl)

pub change_other {ℓ} : {A : Type ℓ} (f : ℕ → A) (k : ℕ) (v : A) (j : ℕ) → j ≢ k → change f k v j ≡ f j
unfolding change
change_other f k v j n = ap (λ b. cond b v (f j)) (ne_eqb j k n)

-- what holds of the new value there, and of the old ones elsewhere, holds everywhere
pub change_all {ℓ} : {A : Type ℓ} (P : ℕ → A → Type 0) (f : ℕ → A) (k : ℕ) (v : A) → P k v → ((j : ℕ) → j ≢ k → P j (f j)) →
    (j : ℕ) → P j (change f k v j)
unfolding change
change_all P f k v h o j = by (eqb j k) refl
  where
    by : (t : Bool) → eqb j k ≡ t → P j (cond t v (f j))
    by true e = rw (eqb-true j k e) h
    by false e = o j (eqb-false j k e)

pub change_both {ℓ ℓ'} : {A : Type ℓ} {B : Type ℓ'} (P : ℕ → A → B → Type 0) (f : ℕ → A) (g : ℕ → B) (k : ℕ) (v : A) (w : B) →
    P k v w → ((j : ℕ) → j ≢ k → P j (f j) (g j)) → (j : ℕ) → P j (change f k v j) (change g k w j)
unfolding change
change_both P f g k v w h o j = by (eqb j k) refl
  where
    by : (t : Bool) → eqb j k ≡ t → P j (cond t v (f j)) (cond t w (g j))
    by true e = rw (eqb-true j k e) h
    by false e = o j (eqb-false j k e)

-- this place, and every other
pub each : (P : ℕ → Type 0) (k : ℕ) → P k → ((j : ℕ) → j ≢ k → P j) → (j : ℕ) → P j
each P k h o j = by (eqb j k) refl
  where
    by : (t : Bool) → eqb j k ≡ t → P j
    by true e = rw (eqb-true j k e) h
    by false e = o j (eqb-false j k e)

-- to put what is there changes nothing
pub change_id : {A : Type 0} (f : ℕ → A) (k : ℕ) → change f k (f k) ≡ f
change_id f k = fun_ext (change_all (λ j b. b ≡ f j) f k (f k) refl (λ j n. refl))
