-- A test of each element of a list, as an iterator makes it, is the rules' test of each number below the list's length;
-- and so is what a call of `all` gives, on a list or a range, where its closure makes that test. Assumes nothing.
use mathlib.Core.Path.{◌≡◌, refl, sym, ap, ◌∙◌}
use mathlib.Core.Bool.{Bool, true, false, ◌&&◌}
use mathlib.Core.List.{List, [], ◌∷◌}
use Prim.Native.Nat.{ℕ, zero, suc, ◌<◌}
use native.Mathlib.Omega.{arith}
use denote.Param.Members.{Mut}
use lib.ListN.{length, get_or}
use Rattle.std.specs.Fn.{Called}
use Rattle.std.specs.Iterator.{YieldsThen}
use Rattle.std.specs.List.{list_all, range_with_len, FoldsTo}
use Rattle.std.specs.Option.{MatchOption}
use Rattle.std.specs.Prelude.{Option}
use Rattle.std.proofs.iter.Yields.{nat_range_steps}
use Rattle.std.proofs.Math.Bool.{and_assoc}
use Rattle.std.proofs.lemmas.Iterator.{YieldsList, YieldsList-from_range}
use Rattle.std.proofs.lemmas.Iterator.Search.{all_from_yields_List}
use Rattle.std.proofs.lemmas.List.FromFn.{length-range_with_len, get_or-range_with_len}
use Rattle.rules.specs.GoodForm.{all}

last_first : (a : Bool) → (true && a) ≡ (a && true)
last_first true = refl
last_first false = refl

-- the first number may be tried before the others
first : (test : ℕ → Bool) (n : ℕ) → all (suc n) test ≡ (test 0 && all n (λ i. test (suc i)))
unfolding all
first test zero = last_first (test 0)
first test (suc n) =
    ap (λ (b : Bool). b && test (suc n)) (first test n) ∙ and_assoc (test 0) (all n (λ i. test (suc i))) (test (suc n))

by_length :
    {X : Type 0} (each : X → Bool) (test : ℕ → Bool) (d : X) (xs : List X)
    → ((k : ℕ) → k < length xs → each (get_or xs k d) ≡ test k)
    → list_all each xs ≡ all (length xs) test
unfolding all
by_length each test d [] same = refl
by_length each test d (x ∷ xs) same =
    rw (first test (length xs), same 0 (omega arith), by_length each (λ i. test (suc i)) d xs (λ k l. same (suc k) (omega arith)))

-- the same test of each element, and of the number where it lies
each_listed :
    {X : Type 0} (each : X → Bool) (test : ℕ → Bool) (d : X) (n : ℕ) (xs : List X)
    → length xs ≡ n
    → ((k : ℕ) → k < n → each (get_or xs k d) ≡ test k)
    → list_all each xs ≡ all n test
each_listed each test d n xs long same = rw (sym long) (by_length each test d xs (λ k l. same k (omega arith)))

each_counted : (test : ℕ → Bool) (n : ℕ) → list_all test (range_with_len 0 n) ≡ all n test
each_counted test n =
    each_listed test test 0 n (range_with_len 0 n) (length-range_with_len 0 n) at
  where
    at : (k : ℕ) → k < n → test (get_or (range_with_len 0 n) k 0) ≡ test k
    at k l =
        let there : get_or (range_with_len 0 n) k 0 ≡ k = omega (arith, get_or-range_with_len 0 n k 0 l) in
        ap test there

-- what a call of `all` with the closure f ran through, and its answer
abbrev Ran :
    {S A F : Type 0} → (S → Option A → S → Type 0) → Mut F (A × Unit {0}) Bool → S → S → F → Bool → Type 0
Ran {S} {A} {F} steps g s u f r =
    (xs : List A) × (o : Option A) × (j : F) × YieldsThen steps s xs o u × FoldsTo (λ p x q. Called g p (x, tt) true q) f xs j
    × MatchOption o (r ≡ true) (λ x. (r ≡ false) × ((h : F) × Called g j (x, tt) false h))

module _ {S A B F : Type 0} {steps : S → Option A → S → Type 0} {v : A → B} {g : Mut F (A × Unit {0}) Bool}
    {s : S} {f : F} {r : Bool} {xs : List B} (each : B → Bool) (test : ℕ → Bool) (d : B) (n : ℕ) (u : S) where
  pub list_tried :
      Ran steps g s u f r
      → YieldsList steps v s xs
      → ((x : A) (b : Bool) (q : F) → Called g f (x, tt) b q → (q ≡ f) × (b ≡ each (v x)))
      → length xs ≡ n
      → ((k : ℕ) → k < n → each (get_or xs k d) ≡ test k)
      → r ≡ all n test
  list_tried ran chain called long same =
      all_from_yields_List each u f r ran chain called ∙ each_listed each test d n xs long same

module _ {F : Type 0} {g : Mut F (ℕ × Unit {0}) Bool} {s u : _} {f : F} {r : Bool} (test : ℕ → Bool) (n : ℕ) where
  pub range_tried :
      Ran nat_range_steps g s u f r
      → s ≡ record { start = 0; end = n }
      → ((x : ℕ) (b : Bool) (q : F) → Called g f (x, tt) b q → (q ≡ f) × (b ≡ test x))
      → r ≡ all n test
  range_tried ran whole called =
      all_from_yields_List test u f r ran (YieldsList-from_range 0 n n whole (omega arith)) called ∙ each_counted test n
