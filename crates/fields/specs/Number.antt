-- Document 01: numbers are decimal, no sign, no leading zero but 0 itself, below 2^64.
use Rattle.std.specs.Prelude.{ℕ, ◌+◌, ◌*◌, ◌-◌, ◌^◌, Bool, cond, ◌&&◌, List, [], ◌∷◌, eqb, leb, ltb, length, get_or, Option, Some, None}
use Rattle.std.specs.List.{list_all}
use Rattle.fields.specs.Bytes.{zero_digit, nine_digit}

-- what a field holds: a number, or why it holds none
pub data NumberCase : Type 0 where
  Spells : ℕ → NumberCase
  Blank : NumberCase
  LeadingZero : NumberCase
  NotADigit : NumberCase
  TooGreat : NumberCase

abbrev pub is_digit : ℕ → Bool
is_digit x = leb zero_digit x && leb x nine_digit

unfoldable pub all_digits : List ℕ → Bool
all_digits s = list_all is_digit s

-- a zero with something after it
unfoldable pub zero_leads : List ℕ → Bool
zero_leads s = leb 2 (length s) && eqb (get_or s 0 0) zero_digit

-- the number that digits spell after those that spell `before`
unfoldable pub value_from : ℕ → List ℕ → ℕ
value_from before [] = before
value_from before (x ∷ xs) = value_from (before * 10 + (x - zero_digit)) xs

abbrev pub value_case : ℕ → NumberCase
value_case n = cond (ltb n (2 ^ 64)) (Spells n) TooGreat

unfoldable pub number_case : List ℕ → NumberCase
number_case s =
    cond (eqb (length s) 0) Blank
    (cond (zero_leads s) LeadingZero
    (cond (all_digits s) (value_case (value_from 0 s))
    NotADigit))

-- the answer does not tell the reasons apart
abbrev pub number_in : NumberCase → Option ℕ
number_in (Spells n) = Some n
number_in Blank = None
number_in LeadingZero = None
number_in NotADigit = None
number_in TooGreat = None

-- the number in a field
unfoldable pub number_of : List ℕ → Option ℕ
number_of s = number_in (number_case s)
