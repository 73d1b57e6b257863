-- The kit's words for lists, options and results that specs/ of the crates above use: what each comes to, so that its definition
-- need not be believed. Assumes nothing.
use Rattle.std.proofs.Common.{◌≡◌, ℕ, Bool, true, ◌&&◌, List, [], ◌∷◌, refl, Result, Ok, Err}
use Rattle.std.specs.Prelude.{Option, Some, None}
use Rattle.std.specs.List.{list_all}
use Rattle.std.specs.Option.{ok_or}
use Rattle.std.specs.Result.{result_ok, result_and, result_unwrap_or}
use Rattle.std.specs.Str.{bytes_eq}
use Rattle.std.proofs.lemmas.Slice.Eq.{bytes_eq-Decides}

-- each element passes a test
pub all_none : {A : Type 0} (test : A → Bool) → list_all test [] ≡ true
all_none test = refl

pub all_more : {A : Type 0} (test : A → Bool) (x : A) (xs : List A) → list_all test (x ∷ xs) ≡ (test x && list_all test xs)
all_more test x xs = refl

-- two texts are the same
pub same_refl : (s : List ℕ) → bytes_eq s s ≡ true
same_refl s = (bytes_eq-Decides s s).1 refl

pub same_eq : (s t : List ℕ) → bytes_eq s t ≡ true → s ≡ t
same_eq s t = (bytes_eq-Decides s t).0

module _ {A E : Type 0} (a : A) (e : E) where
  -- what is there, or an error
  pub ok_some : ok_or (Some a) e ≡ Ok a
  ok_some = refl

  pub ok_none : ◌≡◌ {A = Result A E} (ok_or None e) (Err e)
  ok_none = refl

  -- what is there where there is no error
  pub ok_of_ok : ◌≡◌ {A = Option A} (result_ok {E = E} (Ok a)) (Some a)
  ok_of_ok = refl

  pub ok_of_err : ◌≡◌ {A = Option A} (result_ok (Err e)) None
  ok_of_err = refl

  -- .. or another in its place
  pub unwrap_ok : (other : A) → result_unwrap_or {E = E} (Ok a) other ≡ a
  unwrap_ok other = refl

  pub unwrap_err : (other : A) → result_unwrap_or (Err e) other ≡ other
  unwrap_err other = refl

  -- the first error, else the second result
  pub and_ok : {B : Type 0} (second : Result B E) → result_and (Ok a) second ≡ second
  and_ok second = refl

  pub and_err : {B : Type 0} (second : Result B E) → result_and {T = A} (Err e) second ≡ Err e
  and_err second = refl
