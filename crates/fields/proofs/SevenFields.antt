-- The fields of a record in form, joined by commas, are its body, and they lie in it one after the other. Assumes nothing.
use Prim.Native.Nat.{ℕ, zero, suc, ◌+◌, ◌<◌}
use mathlib.Core.Path.{◌≡◌, refl, ap, sym, ◌∙◌}
use mathlib.Core.Bool.{Bool, true, false, cond}
use mathlib.Core.List.{List, [], ◌∷◌, ◌++◌}
use native.Mathlib.Omega.{arith}
use lib.Dec.{eqb, leb}
use lib.ListN.{length, drop}
use lib.Seq.{length-take-le}
use borrow.Author.Tests.{eqb-true}
use Rattle.fields.specs.Bytes.{comma}
use Rattle.fields.specs.Form.{body_length, body_of, no_stray, commas, in_form}
use Rattle.fields.specs.Fields.{up_to_comma, past_comma, part_of, field_of}
use Rattle.fields.specs.Spans.{start_of, to_comma, end_from, span_of}
use Rattle.fields.proofs.FieldSpans.{start_zero, body_within}
use Rattle.rules.proofs.Tests.{and_right}

-- six commas part its seven fields
in_form_commas : (s : List ℕ) → in_form s ≡ true → commas (body_of s) ≡ 6
unfolding in_form
in_form_commas s e =
    let clean = and_right (leb (length s) 512) _ e in
    let fields : commas (body_of s) + 1 ≡ 7 = eqb-true (commas (body_of s) + 1) 7 (and_right (no_stray (body_of s)) _ clean) in
    omega arith

-- fields 0 to n with a comma between each two
abbrev pub joined : (ℕ → List ℕ) → ℕ → List ℕ
joined fields zero = fields 0
joined fields (suc n) = fields 0 ++ (comma ∷ joined (λ k. fields (suc k)) n)

no_comma : (s : List ℕ) → commas s ≡ 0 → up_to_comma s ≡ s
unfolding commas up_to_comma
no_comma [] e = refl
no_comma (x ∷ xs) e = by_test (eqb x 44) e (no_comma xs)
  where
    by_test : (b : Bool) → cond b 1 0 + commas xs ≡ 0 → (commas xs ≡ 0 → up_to_comma xs ≡ xs) → cond b [] (x ∷ up_to_comma xs) ≡ x ∷ xs
    by_test true q more = absurd (let y : ⊥ = omega arith in y)
    by_test false q more = ap (λ l. x ∷ l) (more (omega arith))

-- the first comma parts a list
first_comma : (s : List ℕ) (n : ℕ) → commas s ≡ suc n → (up_to_comma s ++ (comma ∷ past_comma s) ≡ s) × (commas (past_comma s) ≡ n)
unfolding commas up_to_comma past_comma
first_comma [] n e = absurd (let y : ⊥ = omega arith in y)
first_comma (x ∷ xs) n e = by_test (eqb x 44) refl e (first_comma xs n)
  where
    by_test : (b : Bool) → eqb x 44 ≡ b → cond b 1 0 + commas xs ≡ suc n
        → (commas xs ≡ suc n → (up_to_comma xs ++ (comma ∷ past_comma xs) ≡ xs) × (commas (past_comma xs) ≡ n))
        → (cond b [] (x ∷ up_to_comma xs) ++ (comma ∷ cond b xs (past_comma xs)) ≡ x ∷ xs) × (commas (cond b xs (past_comma xs)) ≡ n)
    by_test true t q more = (ap (λ (y : ℕ). y ∷ xs) (sym (eqb-true x 44 t)), omega arith)
    by_test false t q more = let r = more (omega arith) in (ap (λ l. x ∷ l) r.0, r.1)

joined_parts : (n : ℕ) (s : List ℕ) → commas s ≡ n → joined (part_of s) n ≡ s
unfolding part_of
joined_parts zero s e = no_comma s e
joined_parts (suc n) s e =
    let first = first_comma s n e in
    ap (λ l. up_to_comma s ++ (comma ∷ l)) (joined_parts n (past_comma s) first.1) ∙ first.0

-- a record in form has seven fields, and they make up its body
pub seven_fields : (s : List ℕ) → in_form s ≡ true → joined (field_of s) 6 ≡ body_of s
unfolding field_of
seven_fields s e = joined_parts 6 (body_of s) (in_form_commas s e)

-- one comma stands between a part's end and the next part's start
next_part : (s : List ℕ) (k : ℕ) → k < commas s → start_of s (suc k) ≡ end_from s (start_of s k) + 1
unfolding commas start_of to_comma
next_part [] k h = absurd (let y : ⊥ = omega arith in y)
next_part (x ∷ xs) zero h = by_test (eqb x 44) h (λ l. next_part xs 0 l)
  where
    by_test : (b : Bool) → 0 < cond b 1 0 + commas xs → (0 < commas xs → start_of xs 1 ≡ end_from xs (start_of xs 0) + 1)
        → suc (start_of xs (cond b 0 1)) ≡ 0 + cond b 0 (suc (to_comma xs)) + 1
    by_test true l rest = omega (arith, start_zero xs)
    by_test false l rest =
        let e = rest (omega arith) ∙ ap (λ (n : ℕ). end_from xs n + 1) (start_zero xs) in
        omega arith
next_part (x ∷ xs) (suc k) h = by_test (eqb x 44) h (λ j l. next_part xs j l)
  where
    by_test : (b : Bool) → suc k < cond b 1 0 + commas xs → ((j : ℕ) → j < commas xs → start_of xs (suc j) ≡ end_from xs (start_of xs j) + 1)
        → suc (start_of xs (cond b (suc k) (suc (suc k))))
        ≡ suc (start_of xs (cond b k (suc k))) + to_comma (drop (start_of xs (cond b k (suc k))) xs) + 1
    by_test true l rest = let e = rest k (omega arith) in omega arith
    by_test false l rest = let e = rest (suc k) (omega arith) in omega arith

-- the last part ends where all ends
last_part : (s : List ℕ) (k : ℕ) → commas s ≡ k → end_from s (start_of s k) ≡ length s
unfolding commas start_of to_comma
last_part [] k h = omega arith
last_part (x ∷ xs) zero h = by_test (eqb x 44) h (λ l. last_part xs 0 l)
  where
    by_test : (b : Bool) → cond b 1 0 + commas xs ≡ 0 → (commas xs ≡ 0 → end_from xs (start_of xs 0) ≡ length xs)
        → 0 + cond b 0 (suc (to_comma xs)) ≡ suc (length xs)
    by_test true l rest = absurd (let y : ⊥ = omega arith in y)
    by_test false l rest =
        let e = sym (ap (end_from xs) (start_zero xs)) ∙ rest (omega arith) in
        omega arith
last_part (x ∷ xs) (suc k) h = by_test (eqb x 44) h (λ j l. last_part xs j l)
  where
    by_test : (b : Bool) → cond b 1 0 + commas xs ≡ suc k → ((j : ℕ) → commas xs ≡ j → end_from xs (start_of xs j) ≡ length xs)
        → suc (start_of xs (cond b k (suc k))) + to_comma (drop (start_of xs (cond b k (suc k))) xs) ≡ suc (length xs)
    by_test true l rest = let e = rest k (omega arith) in omega arith
    by_test false l rest = let e = rest (suc k) (omega arith) in omega arith

-- the seven fields begin with the record and end with its body, and one byte, the comma, parts each from the next
pub record EndToEnd (s : List ℕ) : Type 0 where
  pub first : (span_of s 0).start ≡ 0
  pub next : (k : ℕ) → k < 6 → (span_of s (suc k)).start ≡ (span_of s k).end + 1
  pub last : (span_of s 6).end ≡ body_length s

pub end_to_end : (s : List ℕ) → in_form s ≡ true → EndToEnd s
unfolding span_of body_of
end_to_end s e =
    let six = in_form_commas s e in
    record {
      first = start_zero (body_of s);
      next = λ k h. next_part (body_of s) k (omega arith);
      last = last_part (body_of s) 6 six ∙ length-take-le (body_length s) s (body_within s);
    }
