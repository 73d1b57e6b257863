-- Laws of `specs/Spans.antt`: where the loop that looks for commas stands, that a span lies within its record, and that the bytes
-- of a field's span are the field. Assumes nothing.
use Prim.Native.Nat.{ℕ, zero, suc, ◌+◌, ◌-◌, ◌<◌, ◌≤◌}
use mathlib.Core.Path.{◌≡◌, refl, ap, sym, ◌∙◌}
use mathlib.Core.Bool.{Bool, true, false, cond, not}
use mathlib.Core.List.{List, [], ◌∷◌}
use native.Mathlib.Numerals.{add-one}
use native.Mathlib.Omega.{arith}
use lib.Dec.{eqb}
use lib.ListN.{length, take, drop, get_or, drop_of_length-le, take-append-drop, length-drop}
use lib.Seq.{length-take-le, take-append-le, drop-append-le}
use borrow.Author.Tests.{eq-eqb, ne_eqb}
use Rattle.std.specs.List.{prefix_len}
use Rattle.std.proofs.lemmas.Slice.{between_to_end}
use Rattle.fields.specs.Form.{closed, body_length, body_of}
use Rattle.fields.specs.Fields.{up_to_comma, past_comma, part_of, field_of}
use Rattle.fields.specs.Spans.{start_of, to_comma, end_from, span_of, body_span, bytes_in}
use Rattle.fields.specs.declared.spans.Span.{Span}
use Rattle.fields.proofs.Splits.{drop_step, part_nil, up_to_take}

pub start_zero : (s : List ℕ) → start_of s 0 ≡ 0
unfolding start_of
start_zero [] = refl
start_zero (x ∷ xs) = refl

module _ (s : List ℕ) (i : ℕ) (h : i < length s) where
  pub start_comma : (k : ℕ) → (k ≡ 0 → ⊥) → get_or s i 0 ≡ 44 → start_of (drop i s) k ≡ start_of (drop (i + 1) s) (k - 1) + 1
  unfolding start_of
  start_comma zero n e = absurd (n refl)
  start_comma (suc k) n e = let d : suc k - 1 ≡ k = omega arith in rw (drop_step, d) (simp (eq-eqb _ _ e, add-one))

  pub start_other : (k : ℕ) → (k ≡ 0 → ⊥) → (get_or s i 0 ≡ 44 → ⊥) → start_of (drop i s) k ≡ start_of (drop (i + 1) s) k + 1
  unfolding start_of
  start_other zero n e = absurd (n refl)
  start_other (suc k) n e = rw drop_step (simp (ne_eqb _ _ e, add-one))

pub start_end : (s : List ℕ) (i k : ℕ) → length s ≤ i → start_of (drop i s) k ≡ 0
unfolding start_of
start_end s i k h = rw (drop_of_length-le s)

-- what the loop that looks for the k-th comma learns at each place, and at the end
pub ruleset starts = (start_zero, start_comma, start_other, start_end)

-- nothing past the list
pub start_within : (s : List ℕ) (k : ℕ) → start_of s k ≤ length s
unfolding start_of
start_within [] k = omega arith
start_within (x ∷ xs) zero = omega arith
start_within (x ∷ xs) (suc k) = let h = start_within xs (cond (eqb x 44) k (suc k)) in omega arith

-- in the words of the library's iterators
pub to_comma_front : (s : List ℕ) → prefix_len (λ x. not (eqb x 44)) s ≡ to_comma s
unfolding to_comma
to_comma_front [] = refl
to_comma_front (x ∷ xs) = by_test (eqb x 44) (to_comma_front xs)
  where
    by_test : (b : Bool) → prefix_len (λ x. not (eqb x 44)) xs ≡ to_comma xs → cond (not b) (1 + prefix_len (λ x. not (eqb x 44)) xs) 0 ≡ cond b 0 (suc (to_comma xs))
    by_test true e = refl
    by_test false e = omega arith

to_length : (s : List ℕ) → to_comma s ≡ length (up_to_comma s)
unfolding to_comma up_to_comma
to_length [] = refl
to_length (x ∷ xs) = by_test (eqb x 44) (to_length xs)
  where
    by_test : (b : Bool) → to_comma xs ≡ length (up_to_comma xs) → cond b 0 (suc (to_comma xs)) ≡ length (cond b [] (x ∷ up_to_comma xs))
    by_test true e = refl
    by_test false e = ap suc e

pub to_within : (s : List ℕ) → to_comma s ≤ length s
unfolding to_comma
to_within [] = omega arith
to_within (x ∷ xs) = by_test (eqb x 44) (to_within xs)
  where
    by_test : (b : Bool) → to_comma xs ≤ length xs → cond b 0 (suc (to_comma xs)) ≤ suc (length xs)
    by_test true h = omega arith
    by_test false h = omega arith

end_within : (s : List ℕ) (start : ℕ) → start ≤ length s → end_from s start ≤ length s
end_within s start h = omega (arith, to_within (drop start s), length-drop start s)

-- a part is what stands from its start to the next comma
part_from : (s : List ℕ) (k : ℕ) → up_to_comma (drop (start_of s k) s) ≡ part_of s k
unfolding start_of part_of up_to_comma past_comma
part_from [] k = sym (part_nil k)
part_from (x ∷ xs) zero = refl
part_from (x ∷ xs) (suc k) = by_test (eqb x 44) (λ j. part_from xs j)
  where
    by_test : (b : Bool) → ((j : ℕ) → up_to_comma (drop (start_of xs j) xs) ≡ part_of xs j)
        → up_to_comma (drop (start_of xs (cond b k (suc k))) xs) ≡ part_of (cond b xs (past_comma xs)) k
    by_test true rest = rest k
    by_test false rest = rest (suc k)

pub body_within : (s : List ℕ) → body_length s ≤ length s
unfolding body_length
body_within s = by_test (closed s)
  where
    by_test : (b : Bool) → cond b (length s - 2) (length s) ≤ length s
    by_test true = omega arith
    by_test false = omega arith

pub body_taken : (s : List ℕ) → length (take (body_length s) s) ≡ body_length s
body_taken s = length-take-le (body_length s) s (body_within s)

-- a field's span runs forward, within its record
module _ (s : List ℕ) (k : ℕ) {span : Span} (e : span ≡ span_of s k) where
  pub span_forward : span.start ≤ span.end
  unfolding span_of
  span_forward = omega (arith, ap (λ (r : Span). r.start) e, ap (λ (r : Span). r.end) e)

  pub span_within : span.end ≤ length s
  unfolding span_of body_of
  span_within =
      let b = take (body_length s) s in
      let start = (span_of s k).start in
      let within = end_within b start (omega (arith, start_within b k)) in
      omega (arith, ap (λ (r : Span). r.end) e, within, length-take-le (body_length s) s (body_within s), body_within s)

-- the bytes of a field's span are the field
pub span_bytes : (s : List ℕ) (k : ℕ) → bytes_in (span_of s k) s ≡ field_of s k
unfolding span_of field_of body_of
span_bytes s k =
    let b = take (body_length s) s in
    let past = drop (body_length s) s in
    let a = start_of b k in
    let n = to_comma (drop a b) in
    let e : a + n - a ≡ n = omega arith in
    ap (λ (m : ℕ). take m (drop a s)) e
    ∙ (ap (λ (l : List ℕ). take n (drop a l)) (sym (take-append-drop (body_length s) s))
    ∙ (ap (take n) (drop-append-le a b past (start_within b k))
    ∙ (take-append-le n (drop a b) past (to_within (drop a b))
    ∙ (ap (λ (m : ℕ). take m (drop a b)) (to_length (drop a b))
    ∙ (up_to_take (drop a b) ∙ part_from b k)))))

-- and those of the body's are the body
pub body_bytes : (s : List ℕ) → bytes_in (body_span s) s ≡ body_of s
unfolding body_of
body_bytes s = let e : body_length s - 0 ≡ body_length s = omega arith in ap (λ (n : ℕ). take n s) e

-- the same, for a proof that has the field
pub field_is_bytes : (s : List ℕ) (k : ℕ) → field_of s k ≡ bytes_in (span_of s k) s
field_is_bytes s k = sym (span_bytes s k)

-- where part k of the body starts, and how many bytes it has, are the span of field k
pub span_made : (s inside : List ℕ) (k start count : ℕ) → inside ≡ bytes_in (body_span s) s → start ≡ start_of inside k
    → count ≡ to_comma (take (length inside - start) (drop start inside)) → ◌≡◌ {A = Span} (record { start = start; end = start + count }) (span_of s k)
unfolding span_of
span_made s inside k start count b f e =
    let whole : inside ≡ body_of s = b ∙ body_bytes s in
    let n : count ≡ to_comma (drop start inside) = e ∙ ap to_comma (between_to_end inside start (length inside) (omega arith)) in
    rw (n, f, whole) refl

-- a field's span is made, and no index leaves the body
pub ruleset made = (start_within, to_within, span_made)
