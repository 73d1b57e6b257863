-- What a contract behind the entry points asks of a process, of the words and of a board: good form, clause by clause, and what
-- the declared types say besides: lists of their lengths, and words of 64 bits where a step needs it. A call's new values are
-- only read, so their length does not matter.
use Rattle.std.specs.Prelude.{◌≡◌, true, List, ℕ, ◌^◌, ◌<◌, length, get_or}
use Rattle.rules.specs.GoodForm.{place_fits, open_fits, kept_fit, values_fit, words_fit, in_good_form}
use Rattle.rules.specs.Processes.{process_at}
use Rattle.rules.specs.Sizes.{words_used}
use Rattle.rules.specs.Types.{Board, Place, Idle, LoadReadsWord, ValidateReadsWord, StoreSwapsWord, LoadReadsHeader, ValidateReadsHeader, StoreReadsHeader, StoreAnnounces, StoreSwapsHeader, ReadsSegment, ReadsAnnounced, SwapsSegment, ReadsSegmentAgain, ReadsHeader, Process, Settings}

-- the clauses of a process's good form, by name
pub record Clauses (s : Settings) (p : Process) : Type 0 where
  pub place : place_fits s p.opened p.place ≡ true
  pub sequences : open_fits s p.opened ≡ true
  pub kept : kept_fit s p.keep ≡ true
  pub values : values_fit s p.values ≡ true
  pub gathered : values_fit s p.gathered ≡ true

-- the header that a place holds, or 0
abbrev pub held_header : Place → ℕ
held_header Idle = 0
held_header (LoadReadsWord x) = 0
held_header (ValidateReadsWord x) = 0
held_header (StoreSwapsWord x) = 0
held_header (LoadReadsHeader x) = 0
held_header (ValidateReadsHeader x) = 0
held_header (StoreReadsHeader x) = 0
held_header (StoreAnnounces x header i) = header
held_header (StoreSwapsHeader x header) = header
held_header (ReadsSegment c) = c.header
held_header (ReadsAnnounced c read) = c.header
held_header (SwapsSegment c read announced) = c.header
held_header (ReadsSegmentAgain c) = c.header
held_header (ReadsHeader c value) = c.header

-- what a process's declared type says
pub record Formed (p : Process) : Type 0 where
  pub keep : length p.keep ≡ 16
  pub gathered : length p.gathered ≡ 4
  pub header : held_header p.place < 2 ^ 64

-- each word used is below 2^64
abbrev pub Bounded : Settings → List ℕ → Type 0
Bounded s words = (a : ℕ) → a < words_used s → get_or words a 0 < 2 ^ 64

-- what the declared types of a board and its words say
pub record Shaped (board : Board) (words : List ℕ) : Type 0 where
  pub processes : length board.processes ≡ 16
  pub each : (i : ℕ) → i < 16 → Formed (process_at board i)
  pub bounded : Bounded board.settings words

-- a process in good form and of its type
pub record Sound (s : Settings) (p : Process) : Type 0 where
  pub form : Clauses s p
  pub shape : Formed p

-- words in good form and of their type
pub record Clean (s : Settings) (words : List ℕ) : Type 0 where
  pub fits : words_fit s words ≡ true
  pub bounded : Bounded s words

-- a board and its words, in good form and of their types
pub record InForm (board : Board) (words : List ℕ) : Type 0 where
  pub good : in_good_form board words ≡ true
  pub shaped : Shaped board words
