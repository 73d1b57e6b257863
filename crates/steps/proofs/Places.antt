-- What good form gives at each place is what the place's function requires; and a step is that of the place, where it only reads too.
-- Assumes nothing.
use mathlib.Core.Path.{◌≡◌, refl, sym, ap, ◌∙◌}
use mathlib.Core.Bool.{Bool, true, false, cond}
use mathlib.Core.List.{List}
use Prim.Native.Nat.{ℕ, ◌≤◌, ◌<◌}
use lib.Dec.{eqb}
use lib.ListN.{get_or}
use native.Mathlib.Omega.{arith}
use Rattle.word.specs.Word.{tag_of, value_of, value_limit, previous_tag}
use Rattle.rules.specs.Bounds.{Sized}
use Rattle.rules.specs.Figure4.{Step}
use Rattle.rules.specs.Figure6.{saving, copy_on, copy_cut_short}
use Rattle.rules.specs.GoodForm.{one_place, many_place, header_held, copy_held, process_fits}
use Rattle.rules.specs.Processes.{closing, kept_of, goes_on, ends}
use Rattle.rules.specs.Sizes.{bits, words_used, used_by, header_of, segment_of}
use Rattle.rules.specs.Steps.{step_from, process_step}
use Rattle.std.specs.Prelude.{Ok}
use Rattle.rules.specs.declared.Answer.TheVariants.{No}
use Rattle.rules.specs.declared.Copy.{Copy}
use Rattle.rules.specs.declared.Kind.TheVariants.{Many}
use Rattle.rules.specs.declared.Answered.{Answered}
use Rattle.rules.specs.declared.Place.{Place}
use Rattle.rules.specs.declared.Place.TheVariants.{LoadReadsWord, ValidateReadsWord, StoreSwapsWord, LoadReadsHeader, ValidateReadsHeader, StoreReadsHeader, StoreAnnounces, StoreSwapsHeader, ReadsSegment, ReadsAnnounced, SwapsSegment, ReadsSegmentAgain, ReadsHeader}
use Rattle.rules.specs.declared.Process.{Process}
use Rattle.rules.specs.declared.Settings.{Settings}
use Rattle.rules.proofs.GoodForm.Held as held

-- what the places of kind `one`, of kind `many`, and of Copy require
abbrev pub InOne : Settings → ℕ → ℕ → Type 0
InOne s n x = Sized s × (x < s.t) × (s.t ≤ n)

abbrev pub InMany : Settings → ℕ → ℕ → Type 0
InMany s n x = Sized s × (used_by Many s ≤ n) × (x < s.t)

abbrev pub InCopy : Settings → ℕ → Copy → Type 0
InCopy s n c = Sized s × (used_by Many s ≤ n) × (c.variable < s.t) × (c.segment < s.w)

-- a process in good form, with its own number, over n words
pub record Ready (s : Settings) (p : Process) (me n : ℕ) : Type 0 where
  pub sized : Sized s
  pub used : words_used s ≤ n
  pub own : me < s.n
  pub fits : process_fits s p ≡ true

module _ {s : Settings} {p : Process} {me n : ℕ} (ready : Ready s p me n) where
  in_one : (x : ℕ) → one_place s x ≡ true → InOne s n x
  in_one x e = (ready.sized, held.one_in s x e, held.one_used s x n e ready.used)

  in_many : (x : ℕ) → many_place s x ≡ true → InMany s n x
  in_many x e = (ready.sized, held.many_used s x n e ready.used, held.many_in s x e)

  in_header : (x header : ℕ) → header_held s p.opened x header ≡ true → InMany s n x
  in_header x header e = in_many x (held.held s p.opened x header e)

  in_copy : (c : Copy) → copy_held s p.opened c ≡ true → InCopy s n c
  in_copy c e =
      let many = in_header c.variable c.header (held.segment s p.opened c.variable c.header c.segment e) in
      (many.0, many.1, many.2, held.segment_in s p.opened c.variable c.header c.segment e)

  pub load_reads_word_lem : (x : ℕ) → p.place ≡ LoadReadsWord x → InOne s n x
  load_reads_word_lem x e = in_one x (held.at_place s p ready.fits _ e)

  pub validate_reads_word_lem : (x : ℕ) → p.place ≡ ValidateReadsWord x → InOne s n x
  validate_reads_word_lem x e = in_one x (held.one_open s p.opened x (held.at_place s p ready.fits _ e))

  pub store_swaps_word_lem :
      (x : ℕ) → p.place ≡ StoreSwapsWord x → Sized s × (x < s.t) × (s.t ≤ n) × (get_or p.values 0 0 < value_limit (bits s))
  store_swaps_word_lem x e =
      let one = in_one x (held.one_open s p.opened x (held.at_place s p ready.fits _ e)) in
      (one.0, one.1, one.2, held.value_in s p ready.fits 0 (omega arith))

  pub load_reads_header_lem : (x : ℕ) → p.place ≡ LoadReadsHeader x → InMany s n x
  load_reads_header_lem x e = in_many x (held.at_place s p ready.fits _ e)

  pub validate_reads_header_lem : (x : ℕ) → p.place ≡ ValidateReadsHeader x → InMany s n x
  validate_reads_header_lem x e = in_many x (held.many_open s p.opened x (held.at_place s p ready.fits _ e))

  pub store_reads_header_lem : (x : ℕ) → p.place ≡ StoreReadsHeader x → InMany s n x
  store_reads_header_lem x e = in_many x (held.many_open s p.opened x (held.at_place s p ready.fits _ e))

  pub store_announces_lem :
      (x header i : ℕ) → p.place ≡ StoreAnnounces x header i → Sized s × (used_by Many s ≤ n) × (me < s.n) × (i < s.w)
  store_announces_lem x header i e =
      let there = held.at_place s p ready.fits _ e in
      let many = in_header x header (held.segment s p.opened x header i there) in
      (many.0, many.1, ready.own, held.segment_in s p.opened x header i there)

  pub store_swaps_header_lem :
      (x header : ℕ) → p.place ≡ StoreSwapsHeader x header → Sized s × (used_by Many s ≤ n) × (me < s.n) × (x < s.t)
  store_swaps_header_lem x header e =
      let many = in_header x header (held.at_place s p ready.fits _ e) in (many.0, many.1, ready.own, many.2)

  pub reads_segment_lem : (c : Copy) → p.place ≡ ReadsSegment c → InCopy s n c
  reads_segment_lem c e = in_copy c (held.at_place s p ready.fits _ e)

  pub reads_announced_lem :
      (c : Copy) (read : ℕ)
      → p.place ≡ ReadsAnnounced c read
      → Sized s × (used_by Many s ≤ n) × (value_of (bits s) c.header < s.n) × (c.segment < s.w)
  reads_announced_lem c read e =
      let there = held.at_place s p ready.fits _ e in
      let copy = in_copy c there in
      let header = held.segment s p.opened c.variable c.header c.segment there in
      (copy.0, copy.1, held.held_names s p.opened c.variable c.header header, copy.3)

  pub swaps_segment_lem :
      (c : Copy) (read announced : ℕ)
      → p.place ≡ SwapsSegment c read announced
      → Sized s × (used_by Many s ≤ n) × (c.variable < s.t) × (c.segment < s.w) × (announced < value_limit (bits s))
  swaps_segment_lem c read announced e =
      let there = held.at_place s p ready.fits _ e in
      let copy = in_copy c (held.held_copy s p.opened announced c there) in
      (copy.0, copy.1, copy.2, copy.3, held.held_value s p.opened announced c there)

  pub reads_segment_again_lem : (c : Copy) → p.place ≡ ReadsSegmentAgain c → InCopy s n c
  reads_segment_again_lem c e = in_copy c (held.at_place s p ready.fits _ e)

  pub reads_header_lem : (c : Copy) (value : ℕ) → p.place ≡ ReadsHeader c value → InCopy s n c
  reads_header_lem c value e = in_copy c (held.held_copy s p.opened value c (held.at_place s p ready.fits _ e))

-- a step is that of the place where the process stands
pub step_from_lem :
    (s : Settings) (p : Process) (me : ℕ) (words : List ℕ) {place : Place} {step : Step}
    → p.place ≡ place
    → step ≡ step_from place s p me words
    → step ≡ process_step s p me words
unfolding process_step
step_from_lem s p me words e q = q ∙ ap (λ (l : Place). step_from l s p me words) (sym e)

-- from these places a step only reads: the words after it are those before
abbrev pub OnlyReads : Place → Type 0
OnlyReads place = (s : Settings) (p : Process) (me : ℕ) (words : List ℕ) → (step_from place s p me words).1 ≡ words

either : (test : Bool) (one two : Answered Process) (words : List ℕ) → (cond {A = Step} test (one, words) (two, words)).1 ≡ words
either true one two words = refl
either false one two words = refl

pub store_only_reads : (x : ℕ) → OnlyReads (StoreReadsHeader x)
store_only_reads x s p me words =
    let header = header_of s x words in
    either (eqb (tag_of (bits s) header) (kept_of x p)) (goes_on (StoreAnnounces x header 0) p) (ends (Ok No) (closing x p)) words

pub segment_only_read : (c : Copy) → OnlyReads (ReadsSegment c)
segment_only_read c s p me words =
    let read = segment_of s c.variable c.segment words in
    either
    (eqb (tag_of (bits s) read) (previous_tag (bits s) (tag_of (bits s) c.header)))
    (goes_on (ReadsAnnounced c read) p)
    (goes_on (ReadsHeader c (value_of (bits s) read)) p)
    words

pub header_only_read : (c : Copy) (value : ℕ) → OnlyReads (ReadsHeader c value)
header_only_read c value s p me words =
    let header = header_of s c.variable words in
    either (eqb header c.header) (copy_on s c (saving c value p)) (copy_cut_short s c header p) words

-- .. so that it is settled by the process after it
pub read_from :
    (s : Settings) (p : Process) (me : ℕ) (words : List ℕ) {place : Place} {moved : Answered Process}
    → p.place ≡ place
    → OnlyReads place
    → moved ≡ (step_from place s p me words).0
    → ◌≡◌ {A = Step} (moved, words) (process_step s p me words)
read_from s p me words e same q = step_from_lem s p me words e (λ i. (q i, sym (same s p me words) i))
