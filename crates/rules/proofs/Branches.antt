-- What holds of both arms holds of a choice; what holds of an entry and of what is put in its place holds after a `set`.
-- Assumes nothing.
use mathlib.Core.Path.{◌≡◌, refl, sym, subst}
use mathlib.Core.Bool.{Bool, true, false, cond}
use mathlib.Core.List.{List}
use Prim.Native.Nat.{ℕ}
use borrow.Author.Tests.{ltb-true, ltb-false, eqb-true, eqb-false}
use lib.Dec.{ltb, eqb}
use lib.ListN.{length, get_or, set}
use lib.Seq.{get_or-set_same, get_or-set_other, set_out}

pub branch : {A : Type 0} (P : A → Type 0) (test : Bool) (one two : A) → (test ≡ true → P one) → (test ≡ false → P two)
    → P (cond test one two)
branch P true one two p q = p refl
branch P false one two p q = q refl

pub both_arms : {A : Type 0} (P : A → Type 0) (test : Bool) (one two : A) → P one → P two → P (cond test one two)
both_arms P test one two p q = branch P test one two (λ e. p) (λ e. q)

-- an entry after a `set` is what was put, if it is the one, or what it was
pub after_set : {A : Type 0} (P : A → Type 0) (l : List A) (i : ℕ) (a d : A) (j : ℕ) → (j ≡ i → P a) → P (get_or l j d)
    → P (get_or (set l i a) j d)
after_set {A} P l i a d j new old = go (eqb j i) refl
  where
    there : (t : Bool) → ltb i (length l) ≡ t → j ≡ i → P (get_or (set l i a) j d)
    there true h q =
        subst (λ (k : ℕ). P (get_or (set l i a) k d)) (sym q) (subst P (sym (get_or-set_same l i a d (ltb-true _ _ h))) (new q))
    there false h q = subst (λ (k : List A). P (get_or k j d)) (sym (set_out l i a (ltb-false _ _ h))) old

    go : (t : Bool) → eqb j i ≡ t → P (get_or (set l i a) j d)
    go true e = there (ltb i (length l)) refl (eqb-true j i e)
    go false e = subst P (sym (get_or-set_other l i j a d (eqb-false j i e))) old
