-- The fields of a record: its body, split at commas, counted from 0.
use Rattle.std.specs.Prelude.{ℕ, zero, suc, cond, List, [], ◌∷◌, eqb}
use Rattle.fields.specs.Bytes.{comma}
use Rattle.fields.specs.Form.{body_of}

-- what stands before the first comma; all where there is none
unfoldable pub up_to_comma : List ℕ → List ℕ
up_to_comma [] = []
up_to_comma (x ∷ xs) = cond (eqb x comma) [] (x ∷ up_to_comma xs)

-- what stands after the first comma; nothing where there is none
unfoldable pub past_comma : List ℕ → List ℕ
past_comma [] = []
past_comma (x ∷ xs) = cond (eqb x comma) xs (past_comma xs)

-- part 0 ends at the first comma, and the others are the parts of what stands after it
unfoldable pub part_of : List ℕ → ℕ → List ℕ
part_of s zero = up_to_comma s
part_of s (suc k) = part_of (past_comma s) k

-- field k of a record; nothing where it has no such field
unfoldable pub field_of : List ℕ → ℕ → List ℕ
field_of s k = part_of (body_of s) k
