-- Document 01: records are closed by CR LF; the last may lack it. A refused record too ends at its next CR LF.
use Rattle.std.specs.Prelude.{ℕ, cond, List, [], ◌∷◌, ◌++◌, eqb, length}
use Rattle.fields.specs.Form.{closed}

-- the records of an input whose first record has begun with the bytes of `part`, each with its closing pair where it has one
unfoldable pub records_from : List ℕ → List ℕ → List (List ℕ)
records_from part [] = cond (eqb (length part) 0) [] (part ∷ [])
records_from part (byte ∷ rest) =
    cond (closed (part ++ byte ∷ []))
    ((part ++ byte ∷ []) ∷ records_from [] rest)
    (records_from (part ++ byte ∷ []) rest)

abbrev pub records_of : List ℕ → List (List ℕ)
records_of input = records_from [] input
