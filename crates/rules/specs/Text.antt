-- The bytes of a text; and the texts of the acts, which are read and printed.
use Rattle.std.specs.Prelude.{List, [], ◌∷◌, ℕ}
use Prim.Native.Char.{code}
use Prim.Native.String.{String, [] as done, ◌∷◌ as ◌then◌}

-- a byte for each character, its code: the texts of document 01 are ASCII
abbrev pub ascii : String → List ℕ
ascii done = []
ascii (character then text) = code character ∷ ascii text

abbrev pub load_text : List ℕ
load_text = ascii "LL"

abbrev pub validate_text : List ℕ
validate_text = ascii "VL"

abbrev pub store_text : List ℕ
store_text = ascii "SC"

abbrev pub step_text : List ℕ
step_text = ascii "step"
