-- Tests joined by `&&`, and tests of every number below a bound: what each says of its parts. Assumes nothing.
use mathlib.Core.Path.{◌≡◌, refl, ap, ◌∙◌}
use mathlib.Core.Bool.{Bool, true, false, ◌&&◌}
use mathlib.Core.Logic.{⊎_elim}
use Prim.Native.Nat.{ℕ, zero, suc, ◌<◌}
use native.Mathlib.Nat.{not-suc-le-zero, le_of_suc-le-suc, eq-or-lt_of_le}
use native.Mathlib.Omega.{arith}
use Rattle.rules.specs.GoodForm.{all}

pub never : {A : Type 0} → true ≡ false → A
never e = let z : ◌≡◌ {A = ℕ} 0 1 = cc in absurd (omega arith)

pub and_left : (a b : Bool) → (a && b) ≡ true → a ≡ true
and_left true b e = refl
and_left false b e = e

pub and_right : (a b : Bool) → (a && b) ≡ true → b ≡ true
and_right true b e = e
and_right false b e = cc

pub and_both : (a b : Bool) → a ≡ true → b ≡ true → (a && b) ≡ true
and_both a b p q = rw (p, q)

pub and_no : (a b : Bool) → b ≡ false → (a && b) ≡ false
and_no true b e = e
and_no false b e = refl

pub all_at : (test : ℕ → Bool) (i n : ℕ) → all n test ≡ true → i < n → test i ≡ true
unfolding all
all_at test i zero a h = absurd (not-suc-le-zero h)
all_at test i (suc n) a h =
    ⊎_elim
    (λ (q : i ≡ n). ap test q ∙ and_right (all n test) (test n) a)
    (λ (l : i < n). all_at test i n (and_left (all n test) (test n) a) l)
    (eq-or-lt_of_le (le_of_suc-le-suc h))

-- every number below n passes where each does
pub all_of : (test : ℕ → Bool) (n : ℕ) → ((i : ℕ) → i < n → test i ≡ true) → all n test ≡ true
unfolding all
all_of test zero h = refl
all_of test (suc n) h = rw (all_of test n (λ i l. h i (omega arith)), h n (omega arith))
