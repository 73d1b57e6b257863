-- Document 01, refusal 10: a record has other than 7 fields, a quote mark, a CR or LF other than the closing pair, or over
-- 512 bytes with that pair.
use Rattle.std.specs.Prelude.{ℕ, ◌+◌, ◌-◌, Bool, true, cond, not, ◌&&◌, ◌||◌, List, [], ◌∷◌, eqb, leb, length, get_or, take}
use Rattle.fields.specs.Bytes.{comma, quote_mark, carriage_return, line_feed}

-- a record's last two bytes are the closing pair, CR LF
unfoldable pub closed : List ℕ → Bool
closed s = leb 2 (length s) && (eqb (get_or s (length s - 2) 0) carriage_return && eqb (get_or s (length s - 1) 0) line_feed)

unfoldable pub body_length : List ℕ → ℕ
body_length s = cond (closed s) (length s - 2) (length s)

-- a record without its closing pair; the last may lack it
unfoldable pub body_of : List ℕ → List ℕ
body_of s = take (body_length s) s

-- a byte that no body may hold
abbrev pub stray : ℕ → Bool
stray x = eqb x quote_mark || (eqb x carriage_return || eqb x line_feed)

unfoldable pub no_stray : List ℕ → Bool
no_stray [] = true
no_stray (x ∷ xs) = not (stray x) && no_stray xs

unfoldable pub commas : List ℕ → ℕ
commas [] = 0
commas (x ∷ xs) = cond (eqb x comma) 1 0 + commas xs

-- at most 512 bytes with the closing pair, nothing stray, and one field more than commas
unfoldable pub in_form : List ℕ → Bool
in_form s = leb (length s) 512 && (no_stray (body_of s) && eqb (commas (body_of s) + 1) 7)
