-- Blank fields: those that a record must leave empty, to its last.
use Rattle.std.specs.Prelude.{ℕ, zero, suc, ◌-◌, Bool, true, ◌&&◌, List, eqb, length}
use Rattle.fields.specs.Fields.{field_of}

abbrev pub blank : List ℕ → Bool
blank field = eqb (length field) 0

-- `count` fields, from field k on, are blank
unfoldable pub blanks : List ℕ → ℕ → ℕ → Bool
blanks s k zero = true
blanks s k (suc count) = blank (field_of s k) && blanks s (suc k) count

-- all from field k on, of the 7
unfoldable pub blank_from : List ℕ → ℕ → Bool
blank_from s k = blanks s k (7 - k)
