-- Laws of `specs/Form.antt`, in the words of the library's methods on slices, and of `specs/Fields.antt`. Assumes nothing.
use Prim.Native.Nat.{ℕ, zero, suc, ◌+◌, ◌-◌, ◌<◌, ◌≤◌}
use mathlib.Core.Path.{◌≡◌, refl, ap, sym, ◌∙◌}
use mathlib.Core.Bool.{Bool, true, false, cond, not, ◌&&◌}
use mathlib.Core.List.{List, [], ◌∷◌}
use native.Mathlib.Numerals.{add-one}
use native.Mathlib.Omega.{arith}
use lib.Dec.{eqb, leb}
use lib.ListN.{length, take, drop, get_or, drop_of_length-le}
use lib.Seq.{drop-cons}
use borrow.Author.Tests.{leb-true, le-leb}
use Rattle.std.specs.List.{list_all, count_by, ends_with}
use Rattle.std.proofs.lemmas.List.{take_all}
use Rattle.std.proofs.lemmas.List.Folds.{list_all_at}
use Rattle.std.proofs.lemmas.List.Recursion.{is_count_by}
use Rattle.std.proofs.lemmas.Bool.Decides.{nat_tests}
use Rattle.rules.proofs.Tests.{and_left, and_no}
use Rattle.fields.specs.Form.{closed, stray, no_stray, commas}
use Rattle.fields.specs.Fields.{up_to_comma, past_comma, part_of}

pub drop_step : (s : List ℕ) (i : ℕ) → i < length s → drop i s ≡ get_or s i 0 ∷ drop (i + 1) s
drop_step s i h = rw (add-one, drop-cons s i 0)

stray_all : (s : List ℕ) → list_all (λ x. not (stray x)) s ≡ no_stray s
unfolding no_stray
stray_all [] = refl
stray_all (x ∷ xs) = ap (◌&&◌ (not (stray x))) (stray_all xs)

-- a body with a stray byte is out of form
pub stray_at : (s : List ℕ) (i : ℕ) → i < length s → stray (get_or s i 0) ≡ true → no_stray s ≡ false
stray_at s i h e = sym (stray_all s) ∙ list_all_at (λ x. not (stray x)) s i 0 h (ap not e)

commas_count : (s : List ℕ) → commas s ≡ count_by (λ x. eqb x 44) s
unfolding commas
commas_count s = is_count_by commas (λ x. eqb x 44) refl (λ x xs. by_test (eqb x 44) (commas xs)) s
  where
    by_test : (b : Bool) (n : ℕ) → cond b 1 0 + n ≡ cond b (1 + n) n
    by_test true n = refl
    by_test false n = omega arith

-- what holds of all bytes that were passed holds of the body once each was
pub passed_all : (s : List ℕ) (i found : ℕ) → length s ≤ i → list_all (λ x. not (stray x)) (take i s) ≡ true
    → found ≡ count_by (λ x. eqb x 44) (take i s) → (no_stray s ≡ true) × (commas s ≡ found)
passed_all s i found h clean e =
    let whole : take i s ≡ s = take_all i s h in
    (sym (stray_all s) ∙ rw whole at clean, commas_count s ∙ sym (rw whole at e))

pub part_nil : (k : ℕ) → part_of [] k ≡ []
unfolding part_of past_comma up_to_comma
part_nil zero = refl
part_nil (suc k) = part_nil k

-- a part's bytes are the first of what it starts
pub up_to_take : (s : List ℕ) → take (length (up_to_comma s)) s ≡ up_to_comma s
unfolding up_to_comma
up_to_take [] = refl
up_to_take (x ∷ xs) = cut (eqb x 44) (up_to_take xs)
  where
    cut : (b : Bool) → take (length (up_to_comma xs)) xs ≡ up_to_comma xs
        → take (length (cond b [] (x ∷ up_to_comma xs))) (x ∷ xs) ≡ cond b [] (x ∷ up_to_comma xs)
    cut true e = refl
    cut false e = ap (λ l. x ∷ l) e

last_two : (s : List ℕ) → 2 ≤ length s → ends_with eqb s (13 ∷ 10 ∷ []) ≡ closed s
unfolding closed
last_two s h =
    let n = length s - 2 in
    let after : n + 1 ≡ length s - 1 = omega arith in
    let first : drop n s ≡ get_or s n 0 ∷ drop (n + 1) s = drop_step s n (omega arith) in
    let second : drop (n + 1) s ≡ get_or s (n + 1) 0 ∷ drop (n + 1 + 1) s = drop_step s (n + 1) (omega arith) in
    let none : drop (n + 1 + 1) s ≡ [] = drop_of_length-le s (omega arith) in
    rw (first, second, none, after, le-leb 2 (length s) h) (pair (get_or s n 0) (get_or s (length s - 1) 0))
  where
    pair : (a b : ℕ) → eqb 13 a && (eqb 10 b && true) ≡ eqb a 13 && eqb b 10
    pair a b = grind (arith, nat_tests)

-- a record is closed exactly if it ends with the pair
pub closed_ends : (s : List ℕ) → ends_with eqb s (13 ∷ 10 ∷ []) ≡ closed s
unfolding closed
closed_ends [] = refl
closed_ends (x ∷ []) = and_no (eqb 13 x) false refl
closed_ends (x ∷ y ∷ r) = last_two (x ∷ y ∷ r) (omega arith)

-- a record that ends in the pair has two bytes
pub closed_two : (s : List ℕ) → closed s ≡ true → 2 ≤ length s
unfolding closed
closed_two s e = leb-true 2 (length s) (and_left (leb 2 (length s)) _ e)
