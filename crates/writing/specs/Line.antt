-- A line by RFC 4180: fields with commas between them, closed by CR LF.
use Rattle.std.specs.Prelude.{List, [], ◌∷◌, ◌++◌, ℕ}
use Rattle.rules.specs.Text.{ascii}

-- a field with the comma before it
abbrev pub after_comma : List ℕ → List ℕ
after_comma field = ascii "," ++ field

-- what follows a line's first field: the other fields, and CR LF
abbrev pub rest : List (List ℕ) → List ℕ
rest [] = ascii "\r\n"
rest (field ∷ fields) = after_comma field ++ rest fields

abbrev pub line : List ℕ → List (List ℕ) → List ℕ
line first others = first ++ rest others
