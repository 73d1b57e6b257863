-- Laws of a row's fields: the value fields, and how long its parts are. Assumes nothing.
use mathlib.Core.Path.{◌≡◌, refl, ap}
use mathlib.Core.List.{List, [], ◌∷◌, ◌++◌, append_assoc}
use Prim.Native.Nat.{ℕ, zero, suc, ◌+◌, ◌≤◌}
use native.Mathlib.Omega.{arith}
use lib.ListN.{length, length-append}
use Rattle.std.specs.Prelude.{slice_get}
use Rattle.fields.specs.Decimal.{decimal}
use Rattle.fields.proofs.Decimals.{some_digit, decimal_short}
use Rattle.rules.specs.Text.{ascii}
use Rattle.writing.specs.Line.{after_comma, rest}
use Rattle.printout.specs.Row.{process_field, act_field, open_field, value_field, value_fields, row_of}
use Rattle.rules.specs.Answers.{answer_word, numbers_of}
use Rattle.printout.specs.declared.Row.{Row}

-- a value field holds its number where there is one, and is blank where not
pub shown : (k : ℕ) (numbers : List ℕ) → open_field (slice_get numbers k) ≡ value_field k numbers
shown k [] = refl
shown zero (v ∷ numbers) = refl
shown (suc k) (v ∷ numbers) = shown k numbers

-- a field with its comma, then the others
length_after : (field : List ℕ) (fields : List (List ℕ)) → length (rest (field ∷ fields)) ≡ 1 + length field + length (rest fields)
length_after field fields = omega (arith, length-append field (rest fields))

pub length_values : (numbers : List ℕ)
    → length (rest (value_fields numbers))
    ≡ length (value_field 0 numbers) + length (value_field 1 numbers) + length (value_field 2 numbers) + length (value_field 3 numbers) + 6
length_values numbers = four (value_field 0 numbers) (value_field 1 numbers) (value_field 2 numbers) (value_field 3 numbers)
  where
    four : (a b c d : List ℕ) → length (rest (a ∷ b ∷ c ∷ d ∷ [])) ≡ length a + length b + length c + length d + 6
    four a b c d = omega (arith, length_after a (b ∷ c ∷ d ∷ []), length_after b (c ∷ d ∷ []), length_after c (d ∷ []), length_after d [])

-- no number takes less room than 0
pub zero_shortest : (n : ℕ) → length (rest (value_fields (0 ∷ []))) ≤ length (rest (value_fields (n ∷ [])))
zero_shortest n =
    let one_digit : length (decimal 0) ≡ 1 = ap (λ (l : List ℕ). length l) (decimal_short 20 0 (omega arith) (omega arith)) in
    omega (arith, length_values (0 ∷ []), length_values (n ∷ []), one_digit, some_digit 19 n)

-- the parts of a row that are put one after the other
abbrev pub who_part : Row → List ℕ
who_part row = after_comma (process_field row.who) ++ after_comma (act_field row.who)

abbrev pub numbers_part : Row → List ℕ
numbers_part row = rest (value_fields (numbers_of row.w row.answer))

pub row_parts : (row : Row)
    → decimal row.number ++ (who_part row ++ (after_comma (answer_word row.answer) ++ (after_comma (open_field row.open) ++ numbers_part row))) ≡ row_of row
unfolding row_of
row_parts row =
    ap (λ (bytes : List ℕ). decimal row.number ++ (ascii "," ++ bytes))
    (append_assoc (process_field row.who) (after_comma (act_field row.who)) (after_comma (answer_word row.answer) ++ (after_comma (open_field row.open) ++ numbers_part row)))

pub length_row : (row : Row)
    → length (row_of row)
    ≡ length (decimal row.number) + length (who_part row) + length (after_comma (answer_word row.answer)) + length (after_comma (open_field row.open))
    + length (numbers_part row)
length_row row = rw (← row_parts row) (five (decimal row.number) (who_part row) (after_comma (answer_word row.answer)) (after_comma (open_field row.open)) (numbers_part row))
  where
    five : (a b c d e : List ℕ) → length (a ++ (b ++ (c ++ (d ++ e)))) ≡ length a + length b + length c + length d + length e
    five a b c d e = simp length-append (omega arith)
