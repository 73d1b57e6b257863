-- One step is one access, at each place: it sees and changes no word but the one at its address. Assumes nothing.
use mathlib.Core.Path.{◌≡◌, refl, sym}
use mathlib.Core.Bool.{Bool, true, false, cond}
use mathlib.Core.List.{List}
use Prim.Native.Nat.{ℕ, ◌<◌}
use lib.Dec.{eqb}
use lib.ListN.{length, get_or, set}
use lib.Seq.{get_or-set_same}
use Rattle.word.specs.Word.{tag_of, value_of, previous_tag}
use Rattle.rules.specs.Bounds.{Sized}
use Rattle.rules.specs.Figure4.{Step}
use Rattle.rules.specs.GoodForm.{one_place, many_place, header_held, copy_held, place_fits}
use Rattle.rules.specs.OneAccess.{address_of, OneAccess}
use Rattle.rules.specs.Processes.{is_idle, kept_of}
use Rattle.rules.specs.Sizes.{bits, word_at, header_at, segment_at, announce_at, word_of, header_of, segment_of, words_used}
use Rattle.rules.specs.Steps.{step_from, process_step}
use Rattle.rules.specs.Types.{Copy, Answered, Process, Place, Idle, LoadReadsWord, ValidateReadsWord, StoreSwapsWord, LoadReadsHeader, ValidateReadsHeader, StoreReadsHeader, StoreAnnounces, StoreSwapsHeader, ReadsSegment, ReadsAnnounced, SwapsSegment, ReadsSegmentAgain, ReadsHeader, Settings}
use Rattle.rules.proofs.Changes.Frame.{framed}
use Rattle.rules.proofs.Changes.Places.{Writes}
use Rattle.rules.proofs.GoodForm.Held as form
use Rattle.rules.proofs.Sizes.Addresses.{used_one, used_many, header_in, segment_in, announce_in}
use Rattle.rules.proofs.Tests.{never}

-- a step in two memories, at address a
record Alike (a : ℕ) (words others : List ℕ) (one two : Step) : Type 0 where
  moved : one.0 ≡ two.0
  word : a < length words → a < length others → get_or words a 0 ≡ get_or others a 0 → get_or one.1 a 0 ≡ get_or two.1 a 0

module _ {a : ℕ} {words others : List ℕ} where
  reads : {one two : Answered Process} → one ≡ two → Alike a words others (one, words) (two, others)
  reads e = record { moved = e; word = λ l m w. w }

  writes : {one two : Answered Process} (v u : ℕ) → one ≡ two → v ≡ u → Alike a words others (one, set words a v) (two, set others a u)
  writes v u e f = record { moved = e; word = λ l m w. rw (get_or-set_same words a v 0 l, get_or-set_same others a u 0 m) f }

  -- both take the same branch
  either : (t u : Bool) {one two three four : Step} → t ≡ u → Alike a words others one two → Alike a words others three four
      → Alike a words others (cond t one three) (cond u two four)
  either true true e p q = p
  either true false e p q = never e
  either false true e p q = never (sym e)
  either false false e p q = q

module _ (s : Settings) (p : Process) (me : ℕ) (words others : List ℕ) where
  alike : (l : Place) → get_or words (address_of s me l) 0 ≡ get_or others (address_of s me l) 0
      → Alike (address_of s me l) words others (step_from l s p me words) (step_from l s p me others)
  alike Idle e = reads refl
  alike (LoadReadsWord x) e = reads (rw e)
  alike (ValidateReadsWord x) e = reads (rw e)
  alike (StoreSwapsWord x) e =
      either (eqb (word_of x words) (kept_of x p)) (eqb (word_of x others) (kept_of x p)) (rw e)
      (writes _ _ refl refl) (reads refl)
  alike (LoadReadsHeader x) e = reads (rw e)
  alike (ValidateReadsHeader x) e = reads (rw e)
  alike (StoreReadsHeader x) e =
      either (eqb (tag_of (bits s) (header_of s x words)) (kept_of x p)) (eqb (tag_of (bits s) (header_of s x others)) (kept_of x p)) (rw e)
      (reads (rw e)) (reads refl)
  alike (StoreAnnounces x header i) e = writes _ _ refl refl
  alike (StoreSwapsHeader x header) e =
      either (eqb (header_of s x words) header) (eqb (header_of s x others) header) (rw e)
      (writes _ _ refl refl) (reads refl)
  alike (ReadsSegment c) e =
      let before : ℕ = previous_tag (bits s) (tag_of (bits s) c.header) in
      either (eqb (tag_of (bits s) (segment_of s c.variable c.segment words)) before)
      (eqb (tag_of (bits s) (segment_of s c.variable c.segment others)) before) (rw e)
      (reads (rw e)) (reads (rw e))
  alike (ReadsAnnounced c read) e = reads (rw e)
  alike (SwapsSegment c read announced) e =
      either (eqb (segment_of s c.variable c.segment words) read) (eqb (segment_of s c.variable c.segment others) read) (rw e)
      (writes _ _ refl refl) (reads refl)
  alike (ReadsSegmentAgain c) e = reads (rw e)
  alike (ReadsHeader c value) e =
      either (eqb (header_of s c.variable words) c.header) (eqb (header_of s c.variable others) c.header) (rw e)
      (reads refl) (reads (rw e))

-- what a step may write is there
writes_there : (s : Settings) (me : ℕ) (l : Place) (a : ℕ) → Writes s me l a → a ≡ address_of s me l
writes_there s me Idle a w = absurd w
writes_there s me (LoadReadsWord x) a w = absurd w
writes_there s me (ValidateReadsWord x) a w = absurd w
writes_there s me (StoreSwapsWord x) a w = w
writes_there s me (LoadReadsHeader x) a w = absurd w
writes_there s me (ValidateReadsHeader x) a w = absurd w
writes_there s me (StoreReadsHeader x) a w = absurd w
writes_there s me (StoreAnnounces x header i) a w = w
writes_there s me (StoreSwapsHeader x header) a w = w
writes_there s me (ReadsSegment c) a w = absurd w
writes_there s me (ReadsAnnounced c read) a w = absurd w
writes_there s me (SwapsSegment c read announced) a w = w
writes_there s me (ReadsSegmentAgain c) a w = absurd w
writes_there s me (ReadsHeader c value) a w = absurd w

-- the address is among the words used
module _ (s : Settings) (z : Sized s) (me : ℕ) (mine : me < s.n) (m : ℕ) where
  one_there : (x : ℕ) → one_place s x ≡ true → word_at x < words_used s
  one_there x f = used_one s (form.kind_one s x f) (form.one_in s x f)

  header_there : (x : ℕ) → many_place s x ≡ true → header_at s x < words_used s
  header_there x f = used_many s (form.kind_many s x f) (header_in s z (form.many_in s x f))

  module _ (c : Copy) (f : copy_held s m c ≡ true) where
    named : header_held s m c.variable c.header ≡ true
    named = form.segment s m c.variable c.header c.segment f

    here : many_place s c.variable ≡ true
    here = form.held s m c.variable c.header named

    within : c.segment < s.w
    within = form.segment_in s m c.variable c.header c.segment f

    segment_there : segment_at s c.variable c.segment < words_used s
    segment_there = used_many s (form.kind_many s c.variable here) (segment_in s z (form.many_in s c.variable here) within)

    announced_there : announce_at s (value_of (bits s) c.header) c.segment < words_used s
    announced_there =
        used_many s (form.kind_many s c.variable here)
        (announce_in s z (form.held_names s m c.variable c.header named) within)

  there : (l : Place) → is_idle l ≡ false → place_fits s m l ≡ true → address_of s me l < words_used s
  there Idle i f = never i
  there (LoadReadsWord x) i f = one_there x f
  there (ValidateReadsWord x) i f = one_there x (form.one_open s m x f)
  there (StoreSwapsWord x) i f = one_there x (form.one_open s m x f)
  there (LoadReadsHeader x) i f = header_there x f
  there (ValidateReadsHeader x) i f = header_there x (form.many_open s m x f)
  there (StoreReadsHeader x) i f = header_there x (form.many_open s m x f)
  there (StoreAnnounces x header j) i f =
      used_many s (form.kind_many s x (form.held s m x header (form.segment s m x header j f)))
      (announce_in s z mine (form.segment_in s m x header j f))
  there (StoreSwapsHeader x header) i f = header_there x (form.held s m x header f)
  there (ReadsSegment c) i f = segment_there c f
  there (ReadsAnnounced c read) i f = announced_there c f
  there (SwapsSegment c read announced) i f = segment_there c (form.held_copy s m announced c f)
  there (ReadsSegmentAgain c) i f = segment_there c f
  there (ReadsHeader c value) i f = header_there c.variable (here c (form.held_copy s m value c f))

pub one_access : OneAccess
unfolding process_step
one_access =
    record {
      sees_one_word = λ s p me words others i e. (alike s p me words others p.place e).moved;
      leaves_the_same = λ s p me words others i e l m. (alike s p me words others p.place e).word l m e;
      changes_no_other = λ s p me words i a n.
          (framed p.place s p me words i).touched.rest a (λ w. n (writes_there s me p.place a w));
      as_long = λ s p me words i. (framed p.place s p me words i).touched.lent;
      is_used = λ s p me i z mine f. there s z me mine p.opened p.place i f;
    }
