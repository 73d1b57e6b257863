-- What a row or the heading leaves in the lent bytes, and the place after it: nothing, and the same place, where there is
-- too little room.
use Rattle.std.specs.Prelude.{cond, List, ℕ, ◌+◌, ◌-◌, leb, length}
use Rattle.std.proofs.lemmas.List.Edits.{sets}
use Rattle.printout.specs.Row.{heading, row_of}
use Rattle.printout.specs.declared.Row.{Row}

-- the lent bytes after a writer, and the next place
abbrev pub Written : Type 0
Written = List ℕ × ℕ

-- bytes from place `at` on, and no other byte changed; nothing at all where fewer than `room` bytes are lent from there on
abbrev pub written : ℕ → List ℕ → List ℕ → ℕ → Written
written room bytes lent at = cond (leb room (length lent - at)) (sets lent at bytes, at + length bytes) (lent, at)

-- no row is longer
abbrev pub longest_row : ℕ
longest_row = 159

abbrev pub put_row : Row → List ℕ → ℕ → Written
put_row row = written longest_row (row_of row)

abbrev pub put_heading : List ℕ → ℕ → Written
put_heading = written (length heading) heading
