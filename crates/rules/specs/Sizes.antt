-- Document 01, "Sizes": which settings stand, how many words they use, and where each shared word lies.
-- Of the rules only this file knows the order of the words: the address functions, and `used_by`, which counts them.
use Rattle.std.specs.Prelude.{Bool, true, false, ◌&&◌, List, ℕ, ◌+◌, ◌*◌, leb, eqb, get_or}
use Rattle.word.specs.Word.{bits_fit}
use Rattle.rules.specs.Types.{Kind, One, Many, Settings}

abbrev pub is_one : Kind → Bool
is_one One = true
is_one Many = false

abbrev pub is_many : Kind → Bool
is_many One = false
is_many Many = true

-- tag bits b
abbrev pub bits : Settings → ℕ
bits s = s.layout.bits

abbrev pub between : ℕ → ℕ → ℕ → Bool
between least most k = leb least k && leb k most

-- segments W, 1 to 4, and exactly 1 for `one`
abbrev pub segments_fit : Kind → ℕ → Bool
segments_fit One w = eqb w 1
segments_fit Many w = between 1 4 w

-- N processes, 1 to 16; T variables, 1 to 16; tag bits, 4 to 48
unfoldable pub settings_fit : Settings → Bool
settings_fit s =
    between 1 16 s.n && between 1 16 s.t && bits_fit (bits s) && segments_fit s.kind s.w

-- kind `one`: one word a variable
abbrev pub word_at : ℕ → ℕ
word_at x = x

-- kind `many`: variable by variable, each header before its segments
abbrev pub header_at : Settings → ℕ → ℕ
header_at s x = x * (1 + s.w)

abbrev pub segment_at : Settings → ℕ → ℕ → ℕ
segment_at s x i = x * (1 + s.w) + 1 + i

-- then the announce rows, process by process
abbrev pub announce_at : Settings → ℕ → ℕ → ℕ
announce_at s p i = s.t * (1 + s.w) + p * s.w + i

abbrev pub used_by : Kind → Settings → ℕ
used_by One s = s.t
used_by Many s = s.t * (1 + s.w) + s.n * s.w

abbrev pub words_used : Settings → ℕ
words_used s = used_by s.kind s

-- what stands in a shared word
abbrev pub word_of : ℕ → List ℕ → ℕ
word_of x words = get_or words (word_at x) 0

abbrev pub header_of : Settings → ℕ → List ℕ → ℕ
header_of s x words = get_or words (header_at s x) 0

abbrev pub segment_of : Settings → ℕ → ℕ → List ℕ → ℕ
segment_of s x i words = get_or words (segment_at s x i) 0

abbrev pub announced_of : Settings → ℕ → ℕ → List ℕ → ℕ
announced_of s p i words = get_or words (announce_at s p i) 0
