-- The decimal digits of a number as bytes, the most significant first and no leading zero: "0" for 0.
use Rattle.std.specs.Prelude.{ℕ, zero, suc, ◌+◌, ◌/◌, ◌%◌, cond, List, [], ◌∷◌, ◌++◌, ltb}
use Rattle.fields.specs.Bytes.{zero_digit}

-- digits, and one more after them
abbrev pub followed_by : List ℕ → ℕ → List ℕ
followed_by digits d = digits ++ ((zero_digit + d) ∷ [])

-- at most `room` digits
unfoldable pub decimal_in : ℕ → ℕ → List ℕ
decimal_in zero n = []
decimal_in (suc room) n = cond (ltb n 10) (followed_by [] n) (followed_by (decimal_in room (n / 10)) (n % 10))

-- a number below 2^64 has at most 20
abbrev pub decimal : ℕ → List ℕ
decimal n = decimal_in 20 n
