-- Document 01's good form, for each process below N and each used word.
use Rattle.std.specs.Prelude.{Bool, true, ◌&&◌, List, ℕ, zero, suc, ◌^◌, ltb, get_or}
use Rattle.word.specs.Word.{tag_limit, value_limit, value_of}
use Rattle.rules.specs.Processes.{is_open, process_at}
use Rattle.rules.specs.Sizes.{bits, is_one, is_many, header_of, announced_of}
use Rattle.rules.specs.Types.{Board, Copy, Kind, One, Many, Place, Idle, LoadReadsWord, ValidateReadsWord, StoreSwapsWord, LoadReadsHeader, ValidateReadsHeader, StoreReadsHeader, StoreAnnounces, StoreSwapsHeader, ReadsSegment, ReadsAnnounced, SwapsSegment, ReadsSegmentAgain, ReadsHeader, Process, Settings}

-- every number below n passes the test
unfoldable pub all : ℕ → (ℕ → Bool) → Bool
all zero test = true
all (suc n) test = all n test && test n

-- a header names a process below N
unfoldable pub names : Settings → ℕ → Bool
names s header = ltb (value_of (bits s) header) s.n

-- a value is below 2^(64 - b)
unfoldable pub value_fits : Settings → ℕ → Bool
value_fits s value = ltb value (value_limit (bits s))

-- the place is one the kind has, and its variable is below T
unfoldable pub one_place : Settings → ℕ → Bool
one_place s x = is_one s.kind && ltb x s.t

unfoldable pub many_place : Settings → ℕ → Bool
many_place s x = is_many s.kind && ltb x s.t

-- .. and its sequence is open
unfoldable pub one_place_open : Settings → ℕ → ℕ → Bool
one_place_open s opened x = one_place s x && is_open opened x

unfoldable pub many_place_open : Settings → ℕ → ℕ → Bool
many_place_open s opened x = many_place s x && is_open opened x

-- .. and the held header names a process below N
unfoldable pub header_held : Settings → ℕ → ℕ → ℕ → Bool
header_held s opened x header = many_place_open s opened x && names s header

-- .. and the segment is below W
unfoldable pub segment_held : Settings → ℕ → ℕ → ℕ → ℕ → Bool
segment_held s opened x header i = header_held s opened x header && ltb i s.w

abbrev pub copy_held : Settings → ℕ → Copy → Bool
copy_held s opened c = segment_held s opened c.variable c.header c.segment

-- .. and the held value fits
unfoldable pub value_held : Settings → ℕ → Copy → ℕ → Bool
value_held s opened c value = copy_held s opened c && value_fits s value

-- a validate or store in progress has its sequence open, as has a load past its first step
abbrev pub place_fits : Settings → ℕ → Place → Bool
place_fits s opened Idle = true
place_fits s opened (LoadReadsWord x) = one_place s x
place_fits s opened (ValidateReadsWord x) = one_place_open s opened x
place_fits s opened (StoreSwapsWord x) = one_place_open s opened x
place_fits s opened (LoadReadsHeader x) = many_place s x
place_fits s opened (ValidateReadsHeader x) = many_place_open s opened x
place_fits s opened (StoreReadsHeader x) = many_place_open s opened x
place_fits s opened (StoreAnnounces x header i) = segment_held s opened x header i
place_fits s opened (StoreSwapsHeader x header) = header_held s opened x header
place_fits s opened (ReadsSegment c) = copy_held s opened c
place_fits s opened (ReadsAnnounced c read) = copy_held s opened c
place_fits s opened (SwapsSegment c read announced) = value_held s opened c announced
place_fits s opened (ReadsSegmentAgain c) = copy_held s opened c
place_fits s opened (ReadsHeader c value) = value_held s opened c value

-- the four new values, or the four gathered ones
unfoldable pub values_fit : Settings → List ℕ → Bool
values_fit s values = all 4 (λ i. value_fits s (get_or values i 0))

-- kept tags are below 2^b; a keep-word of kind `one` is a whole word
abbrev pub kept_fit_by : Kind → Settings → List ℕ → Bool
kept_fit_by One s keep = true
kept_fit_by Many s keep = all s.t (λ x. ltb (get_or keep x 0) (tag_limit (bits s)))

unfoldable pub kept_fit : Settings → List ℕ → Bool
kept_fit s keep = kept_fit_by s.kind s keep

-- no sequence is open on a variable T or above: no bit of the mask is set from T on
unfoldable pub open_fits : Settings → ℕ → Bool
open_fits s opened = ltb opened (2 ^ s.t)

unfoldable pub process_fits : Settings → Process → Bool
process_fits s p =
    place_fits s p.opened p.place && open_fits s p.opened && kept_fit s p.keep && values_fit s p.values
    && values_fit s p.gathered

unfoldable pub processes_fit : Board → Bool
processes_fit board = all board.settings.n (λ i. process_fits board.settings (process_at board i))

-- each header in memory names a process below N
unfoldable pub headers_fit : Settings → List ℕ → Bool
headers_fit s words = all s.t (λ x. names s (header_of s x words))

-- announced values are below 2^(64 - b)
unfoldable pub row_fits : Settings → ℕ → List ℕ → Bool
row_fits s p words = all s.w (λ i. value_fits s (announced_of s p i words))

unfoldable pub rows_fit : Settings → List ℕ → Bool
rows_fit s words = all s.n (λ p. row_fits s p words)

abbrev pub words_fit_by : Kind → Settings → List ℕ → Bool
words_fit_by One s words = true
words_fit_by Many s words = headers_fit s words && rows_fit s words

unfoldable pub words_fit : Settings → List ℕ → Bool
words_fit s words = words_fit_by s.kind s words

unfoldable pub in_good_form : Board → List ℕ → Bool
in_good_form board words = processes_fit board && words_fit board.settings words
