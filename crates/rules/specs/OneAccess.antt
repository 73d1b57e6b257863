-- Document 01: "One step is one access to shared memory." Each place has one address. What a step makes of its process, what it
-- answers and what it writes there depend on the word there and on no other, and no other word changes.
use Rattle.std.specs.Prelude.{◌≡◌, ◌≢◌, true, false, List, ℕ, ◌<◌, length, get_or}
use Rattle.word.specs.Word.{value_of}
use Rattle.rules.specs.Bounds.{Sized}
use Rattle.rules.specs.GoodForm.{place_fits}
use Rattle.rules.specs.Processes.{is_idle}
use Rattle.rules.specs.Sizes.{bits, word_at, header_at, segment_at, announce_at, words_used}
use Rattle.rules.specs.Steps.{process_step}
use Rattle.rules.specs.Types.{Place, Idle, LoadReadsWord, ValidateReadsWord, StoreSwapsWord, LoadReadsHeader, ValidateReadsHeader, StoreReadsHeader, StoreAnnounces, StoreSwapsHeader, ReadsSegment, ReadsAnnounced, SwapsSegment, ReadsSegmentAgain, ReadsHeader, Process, Settings}

-- the address of the word that the next step of process `me` reads, writes or swaps; an idle process takes no step
abbrev pub address_of : Settings → ℕ → Place → ℕ
address_of s me Idle = 0
address_of s me (LoadReadsWord x) = word_at x
address_of s me (ValidateReadsWord x) = word_at x
address_of s me (StoreSwapsWord x) = word_at x
address_of s me (LoadReadsHeader x) = header_at s x
address_of s me (ValidateReadsHeader x) = header_at s x
address_of s me (StoreReadsHeader x) = header_at s x
address_of s me (StoreAnnounces x header i) = announce_at s me i
address_of s me (StoreSwapsHeader x header) = header_at s x
address_of s me (ReadsSegment c) = segment_at s c.variable c.segment
address_of s me (ReadsAnnounced c read) = announce_at s (value_of (bits s) c.header) c.segment
address_of s me (SwapsSegment c read announced) = segment_at s c.variable c.segment
address_of s me (ReadsSegmentAgain c) = segment_at s c.variable c.segment
address_of s me (ReadsHeader c value) = header_at s c.variable

abbrev pub address : Settings → Process → ℕ → ℕ
address s p me = address_of s me p.place

-- two memories have the same word at the step's address
abbrev pub AgreeThere : Settings → Process → ℕ → List ℕ → List ℕ → Type 0
AgreeThere s p me words others = get_or words (address s p me) 0 ≡ get_or others (address s p me) 0

-- of a process in a call
abbrev pub InCall : Process → Type 0
InCall p = is_idle p.place ≡ false

pub record OneAccess : Type 0 where
  -- the process and its answer are the same in both
  pub sees_one_word : (s : Settings) (p : Process) (me : ℕ) (words others : List ℕ) → InCall p → AgreeThere s p me words others
      → (process_step s p me words).0 ≡ (process_step s p me others).0
  -- so is what stands there after the step, where the address is lent
  pub leaves_the_same : (s : Settings) (p : Process) (me : ℕ) (words others : List ℕ) → InCall p → AgreeThere s p me words others
      → address s p me < length words → address s p me < length others
      → AgreeThere s p me (process_step s p me words).1 (process_step s p me others).1
  -- no other word changes, and none is added or lost
  pub changes_no_other : (s : Settings) (p : Process) (me : ℕ) (words : List ℕ) → InCall p → (a : ℕ) → a ≢ address s p me
      → get_or (process_step s p me words).1 a 0 ≡ get_or words a 0
  pub as_long : (s : Settings) (p : Process) (me : ℕ) (words : List ℕ) → InCall p → length (process_step s p me words).1 ≡ length words
  -- it is one of the words used
  pub is_used : (s : Settings) (p : Process) (me : ℕ) → InCall p → Sized s → me < s.n → place_fits s p.opened p.place ≡ true
      → address s p me < words_used s
