-- The bytes that a record's form and its numbers speak of, as ASCII numbers them.
use Rattle.std.specs.Prelude.{ℕ}

abbrev pub comma : ℕ
comma = 44

abbrev pub quote_mark : ℕ
quote_mark = 34

abbrev pub carriage_return : ℕ
carriage_return = 13

abbrev pub line_feed : ℕ
line_feed = 10

abbrev pub zero_digit : ℕ
zero_digit = 48

abbrev pub nine_digit : ℕ
nine_digit = 57
