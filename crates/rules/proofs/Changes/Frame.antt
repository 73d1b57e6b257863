-- What a step does and leaves alone, at each place: a load's first step opens its sequence, a store's answer closes it;
-- no other variable's sequence and keep-word changes, nor the new values; at most one word is changed, the one its place
-- names; and the answer is no refusal. Assumes nothing.
use mathlib.Core.Path.{◌≡◌, refl, sym, ap, ◌∙◌}
use mathlib.Core.Bool.{Bool, true, false, cond, not}
use mathlib.Core.List.{List}
use Prim.Native.Nat.{ℕ, ◌+◌}
use lib.Dec.{eqb, ltb}
use lib.ListN.{length, get_or, set, length-set}
use lib.Seq.{get_or-set_other}
use Rattle.word.specs.Word.{tag_of, previous_tag}
use Rattle.rules.specs.Figure4.{Step}
use Rattle.rules.specs.Figure6.{saving, copy_on, copy_cut_short}
use Rattle.rules.specs.OwnSteps.{taken}
use Rattle.rules.specs.Processes.{is_idle, is_open, with_closed, kept_of, opening, closing, ends}
use Rattle.rules.specs.Sizes.{bits, word_at, header_at, segment_at, announce_at, word_of, header_of, segment_of}
use Rattle.rules.specs.Steps.{step_from}
use Rattle.rules.specs.Types.{Answer, Ok, Copy, Answered, Process, Place, Idle, LoadReadsWord, ValidateReadsWord, StoreSwapsWord, LoadReadsHeader, ValidateReadsHeader, StoreReadsHeader, StoreAnnounces, StoreSwapsHeader, ReadsSegment, ReadsAnnounced, SwapsSegment, ReadsSegmentAgain, ReadsHeader, Settings}
use Rattle.rules.proofs.Branches.{branch, both_arms}
use Rattle.rules.proofs.Sequences.Closing.{opening_opens, opening_no_other, closing_closes, closing_no_other}
use Rattle.rules.proofs.Changes.Places.{variable_at, Writes, open_after}

-- a process p and what a step from place l makes of it
pub record Own (l : Place) (p : Process) (moved : Answered Process) : Type 0 where
  pub sequence :
      is_open moved.after.opened (variable_at l) ≡ open_after l moved.answer (is_open p.opened (variable_at l))
  pub sequences : (y : ℕ) → (y ≡ variable_at l → ⊥) → is_open moved.after.opened y ≡ is_open p.opened y
  pub keeps : (y : ℕ) → (y ≡ variable_at l → ⊥) → kept_of y moved.after ≡ kept_of y p
  pub values : moved.after.values ≡ p.values
  pub answers : taken moved.answer ≡ true

-- the words before and after a step that may write where W says
pub record Touched (W : ℕ → Type 0) (words after : List ℕ) : Type 0 where
  pub lent : length after ≡ length words
  pub rest : (a : ℕ) → (W a → ⊥) → get_or after a 0 ≡ get_or words a 0

pub record Framed (l : Place) (W : ℕ → Type 0) (p : Process) (words : List ℕ) (step : Step) : Type 0 where
  pub own : Own l p step.0
  pub touched : Touched W words step.1

module _ (l : Place) (p : Process) (moved : Answered Process)
    (values : moved.after.values ≡ p.values) (answers : taken moved.answer ≡ true) where
  -- nothing of the process but its place and what it gathered has changed
  stays : moved.after.opened ≡ p.opened → moved.after.keep ≡ p.keep
      → open_after l moved.answer (is_open p.opened (variable_at l)) ≡ is_open p.opened (variable_at l) → Own l p moved
  stays o k same =
      record {
        sequence = ap (λ (m : ℕ). is_open m (variable_at l)) o ∙ sym same;
        sequences = λ y ne. ap (λ (m : ℕ). is_open m y) o;
        keeps = λ y ne. ap (λ (kept : List ℕ). get_or kept y 0) k;
        values = values;
        answers = answers;
      }

  -- the sequence was closed besides
  closes : moved.after.opened ≡ (closing (variable_at l) p).opened → moved.after.keep ≡ p.keep
      → open_after l moved.answer (is_open p.opened (variable_at l)) ≡ false → Own l p moved
  closes o k shut =
      record {
        sequence = ap (λ (m : ℕ). is_open m (variable_at l)) o ∙ closing_closes (variable_at l) p ∙ sym shut;
        sequences = λ y ne. ap (λ (m : ℕ). is_open m y) o ∙ closing_no_other (variable_at l) p y ne;
        keeps = λ y ne. ap (λ (kept : List ℕ). get_or kept y 0) k;
        values = values;
        answers = answers;
      }

  -- the sequence was opened and a word kept for it
  opens : (kept : ℕ) → moved.after.opened ≡ (opening (variable_at l) p).opened
      → moved.after.keep ≡ set p.keep (variable_at l) kept
      → open_after l moved.answer (is_open p.opened (variable_at l)) ≡ true → Own l p moved
  opens kept o k wide =
      record {
        sequence = ap (λ (m : ℕ). is_open m (variable_at l)) o ∙ opening_opens (variable_at l) p ∙ sym wide;
        sequences = λ y ne. ap (λ (m : ℕ). is_open m y) o ∙ opening_no_other (variable_at l) p y ne;
        keeps = λ y ne. ap (λ (held : List ℕ). get_or held y 0) k ∙ get_or-set_other p.keep (variable_at l) y kept 0 ne;
        values = values;
        answers = answers;
      }

module _ (W : ℕ → Type 0) (words : List ℕ) where
  untouched : Touched W words words
  untouched = record { lent = refl; rest = λ a ne. refl }

  -- one word is written, at an address that W allows
  written : (a v : ℕ) → ((b : ℕ) → b ≡ a → W b) → Touched W words (set words a v)
  written a v eq = record { lent = length-set words a v; rest = λ b ne. get_or-set_other words a b v 0 (λ q. ne (eq b q)) }

-- a load saves a value, and so changes only what it gathered; a store changes nothing
pub record Saved (p q : Process) : Type 0 where
  pub opened : q.opened ≡ p.opened
  pub keep : q.keep ≡ p.keep
  pub values : q.values ≡ p.values

pub saves : (c : Copy) (value : ℕ) (p : Process) → Saved p (saving c value p)
saves c value p =
    both_arms (Saved p) c.gathers _ _
    (record { opened = refl; keep = refl; values = refl })
    (record { opened = refl; keep = refl; values = refl })

-- Copy reads the header, and goes on, is through, or is cut short
module _ (s : Settings) (c : Copy) (value : ℕ) (p : Process) where
  -- a load's sequence stays; a store's closes
  a_load : c.gathers ≡ true → cond (not c.gathers) false (is_open p.opened c.variable) ≡ is_open p.opened c.variable
  a_load e = ap (λ (g : Bool). cond (not g) false (is_open p.opened c.variable)) e

  a_store : c.gathers ≡ false → cond (not c.gathers) false (is_open p.opened c.variable) ≡ false
  a_store e = ap (λ (g : Bool). cond (not g) false (is_open p.opened c.variable)) e

  on : (q : Process) → Saved p q → Own (ReadsHeader c value) p (copy_on s c q)
  on q h =
      let shut = ap (λ (m : ℕ). with_closed m c.variable) h.opened in
      both_arms (Own (ReadsHeader c value) p) (ltb (c.segment + 1) s.w) _ _
      (stays (ReadsHeader c value) p _ h.values refl h.opened h.keep refl)
      (branch (Own (ReadsHeader c value) p) c.gathers _ _
      (λ e. stays (ReadsHeader c value) p _ h.values refl h.opened h.keep (a_load e))
      (λ e. closes (ReadsHeader c value) p _ h.values refl shut h.keep (a_store e)))

  short : (header : ℕ) → Own (ReadsHeader c value) p (copy_cut_short s c header p)
  short header =
      branch (Own (ReadsHeader c value) p) c.gathers _ _
      (λ e. stays (ReadsHeader c value) p _ refl refl refl refl (a_load e))
      (λ e. closes (ReadsHeader c value) p _ refl refl refl refl (a_store e))

-- a step that reads, and one that writes where its place says
module _ {l : Place} {W : ℕ → Type 0} {p : Process} {words : List ℕ} {moved : Answered Process} (own : Own l p moved) where
  reads : Framed l W p words (moved, words)
  reads = record { own = own; touched = untouched W words }

  writes : (a v : ℕ) → ((b : ℕ) → b ≡ a → W b) → Framed l W p words (moved, set words a v)
  writes a v there = record { own = own; touched = written W words a v there }

-- every place but idle
pub framed : (l : Place) (s : Settings) (p : Process) (me : ℕ) (words : List ℕ) → is_idle l ≡ false
    → Framed l (Writes s me l) p words (step_from l s p me words)
framed Idle s p me words e = reads (stays Idle p _ refl (sym e) refl refl refl)
framed (LoadReadsWord x) s p me words e =
    reads (opens (LoadReadsWord x) p _ refl refl (word_of x words) refl refl refl)
framed (ValidateReadsWord x) s p me words e =
    reads
    (both_arms (λ (answer : Answer). Own (ValidateReadsWord x) p (ends (Ok answer) p)) (eqb (word_of x words) (kept_of x p)) _ _
    (stays (ValidateReadsWord x) p _ refl refl refl refl refl)
    (stays (ValidateReadsWord x) p _ refl refl refl refl refl))
framed (StoreSwapsWord x) s p me words e =
    both_arms (Framed (StoreSwapsWord x) (Writes s me (StoreSwapsWord x)) p words) (eqb (word_of x words) (kept_of x p)) _ _
    (writes (closes (StoreSwapsWord x) p _ refl refl refl refl refl) (word_at x) _ (λ b q. q))
    (reads (closes (StoreSwapsWord x) p _ refl refl refl refl refl))
framed (LoadReadsHeader x) s p me words e =
    reads (opens (LoadReadsHeader x) p _ refl refl (tag_of (bits s) (header_of s x words)) refl refl refl)
framed (ValidateReadsHeader x) s p me words e =
    reads
    (both_arms (λ (answer : Answer). Own (ValidateReadsHeader x) p (ends (Ok answer) p))
    (eqb (tag_of (bits s) (header_of s x words)) (kept_of x p)) _ _
    (stays (ValidateReadsHeader x) p _ refl refl refl refl refl)
    (stays (ValidateReadsHeader x) p _ refl refl refl refl refl))
framed (StoreReadsHeader x) s p me words e =
    both_arms (Framed (StoreReadsHeader x) (Writes s me (StoreReadsHeader x)) p words)
    (eqb (tag_of (bits s) (header_of s x words)) (kept_of x p)) _ _
    (reads (stays (StoreReadsHeader x) p _ refl refl refl refl refl))
    (reads (closes (StoreReadsHeader x) p _ refl refl refl refl refl))
framed (StoreAnnounces x header i) s p me words e =
    writes (stays (StoreAnnounces x header i) p _ refl refl refl refl refl) (announce_at s me i) _ (λ b q. q)
framed (StoreSwapsHeader x header) s p me words e =
    both_arms (Framed (StoreSwapsHeader x header) (Writes s me (StoreSwapsHeader x header)) p words) (eqb (header_of s x words) header) _ _
    (writes (stays (StoreSwapsHeader x header) p _ refl refl refl refl refl) (header_at s x) _ (λ b q. q))
    (reads (closes (StoreSwapsHeader x header) p _ refl refl refl refl refl))
framed (ReadsSegment c) s p me words e =
    both_arms (Framed (ReadsSegment c) (Writes s me (ReadsSegment c)) p words)
    (eqb (tag_of (bits s) (segment_of s c.variable c.segment words)) (previous_tag (bits s) (tag_of (bits s) c.header))) _ _
    (reads (stays (ReadsSegment c) p _ refl refl refl refl refl))
    (reads (stays (ReadsSegment c) p _ refl refl refl refl refl))
framed (ReadsAnnounced c read) s p me words e =
    reads (stays (ReadsAnnounced c read) p _ refl refl refl refl refl)
framed (SwapsSegment c read announced) s p me words e =
    both_arms (Framed (SwapsSegment c read announced) (Writes s me (SwapsSegment c read announced)) p words)
    (eqb (segment_of s c.variable c.segment words) read) _ _
    (writes (stays (SwapsSegment c read announced) p _ refl refl refl refl refl) (segment_at s c.variable c.segment) _ (λ b q. q))
    (reads (stays (SwapsSegment c read announced) p _ refl refl refl refl refl))
framed (ReadsSegmentAgain c) s p me words e =
    reads (stays (ReadsSegmentAgain c) p _ refl refl refl refl refl)
framed (ReadsHeader c value) s p me words e =
    both_arms (Framed (ReadsHeader c value) (Writes s me (ReadsHeader c value)) p words)
    (eqb (header_of s c.variable words) c.header) _ _
    (reads (on s c value p (saving c value p) (saves c value p)))
    (reads (short s c value p _))
