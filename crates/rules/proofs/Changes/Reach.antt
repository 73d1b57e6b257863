-- Where a step may write: at the word of its variable, its header or one of its segments, or in the own announce row. So
-- never past the words used, nor at another variable's words or another process's row. Assumes nothing.
use mathlib.Core.Path.{◌≡◌, sym, subst}
use mathlib.Core.Bool.{true}
use Prim.Native.Nat.{ℕ, ◌<◌}
use Rattle.rules.specs.Bounds.{Sized}
use Rattle.rules.specs.GoodForm.{place_fits}
use Rattle.rules.specs.Sizes.{word_at, header_at, segment_at, announce_at, words_used}
use Rattle.rules.specs.Types.{One, Many, Place, Idle, LoadReadsWord, ValidateReadsWord, StoreSwapsWord, LoadReadsHeader, ValidateReadsHeader, StoreReadsHeader, StoreAnnounces, StoreSwapsHeader, ReadsSegment, ReadsAnnounced, SwapsSegment, ReadsSegmentAgain, ReadsHeader, Settings}
use Rattle.rules.proofs.Sizes.Addresses as addresses
use Rattle.rules.proofs.Changes.Places.{variable_at, Writes}
use Rattle.rules.proofs.GoodForm.Held as held

-- the word at address a is one that a step from place l may write
pub data Where (s : Settings) (me : ℕ) (l : Place) (a : ℕ) : Type 0 where
  word : s.kind ≡ One → variable_at l < s.t → a ≡ word_at (variable_at l) → Where s me l a
  row : (i : ℕ) → s.kind ≡ Many → i < s.w → a ≡ announce_at s me i → Where s me l a
  header : s.kind ≡ Many → variable_at l < s.t → a ≡ header_at s (variable_at l) → Where s me l a
  segment : (i : ℕ) → s.kind ≡ Many → variable_at l < s.t → i < s.w → a ≡ segment_at s (variable_at l) i → Where s me l a

module _ (s : Settings) (opened me : ℕ) where
  pub place_writes : (l : Place) (a : ℕ) → place_fits s opened l ≡ true → Writes s me l a → Where s me l a
  place_writes Idle a ok w = absurd w
  place_writes (LoadReadsWord x) a ok w = absurd w
  place_writes (ValidateReadsWord x) a ok w = absurd w
  place_writes (StoreSwapsWord x) a ok w =
      let one = held.one_open s opened x ok in
      word (held.kind_one s x one) (held.one_in s x one) w
  place_writes (LoadReadsHeader x) a ok w = absurd w
  place_writes (ValidateReadsHeader x) a ok w = absurd w
  place_writes (StoreReadsHeader x) a ok w = absurd w
  place_writes (StoreAnnounces x h i) a ok w =
      let at_x = held.held s opened x h (held.segment s opened x h i ok) in
      row i (held.kind_many s x at_x) (held.segment_in s opened x h i ok) w
  place_writes (StoreSwapsHeader x h) a ok w =
      let at_x = held.held s opened x h ok in
      header (held.kind_many s x at_x) (held.many_in s x at_x) w
  place_writes (ReadsSegment c) a ok w = absurd w
  place_writes (ReadsAnnounced c read) a ok w = absurd w
  place_writes (SwapsSegment c read announced) a ok w =
      let copy = held.held_copy s opened announced c ok in
      let at_x = held.held s opened c.variable c.header (held.segment s opened c.variable c.header c.segment copy) in
      segment c.segment (held.kind_many s c.variable at_x) (held.many_in s c.variable at_x)
      (held.segment_in s opened c.variable c.header c.segment copy) w
  place_writes (ReadsSegmentAgain c) a ok w = absurd w
  place_writes (ReadsHeader c value) a ok w = absurd w

module _ (s : Settings) (z : Sized s) (me : ℕ) (mine : me < s.n) (l : Place) where
  -- no word past those used
  pub writes_used : (a : ℕ) → Where s me l a → a < words_used s
  writes_used a (word one h e) = subst (λ (k : ℕ). k < words_used s) (sym e) (addresses.used_one s one h)
  writes_used a (row i many h e) = subst (λ (k : ℕ). k < words_used s) (sym e) (addresses.used_many s many (addresses.announce_in s z mine h))
  writes_used a (header many h e) = subst (λ (k : ℕ). k < words_used s) (sym e) (addresses.used_many s many (addresses.header_in s z h))
  writes_used a (segment i many h hi e) = subst (λ (k : ℕ). k < words_used s) (sym e) (addresses.used_many s many (addresses.segment_in s z h hi))

module _ (s : Settings) (me : ℕ) (l : Place) where
  -- of another variable not its word, its header nor a segment
  pub writes_no_word : (y : ℕ) → (y ≡ variable_at l → ⊥) → s.kind ≡ One → Where s me l (word_at y) → ⊥
  writes_no_word y ne one (word k h e) = ne e
  writes_no_word y ne one (row i many h e) = held.one_not_many one many
  writes_no_word y ne one (header many h e) = held.one_not_many one many
  writes_no_word y ne one (segment i many h hi e) = held.one_not_many one many

  pub writes_no_header : (y : ℕ) → y < s.t → (y ≡ variable_at l → ⊥) → s.kind ≡ Many → Where s me l (header_at s y) → ⊥
  writes_no_header y hy ne many (word one h e) = held.one_not_many one many
  writes_no_header y hy ne many (row i k h e) = addresses.header_announce s y me i hy e
  writes_no_header y hy ne many (header k h e) = ne (addresses.header_header s y (variable_at l) e)
  writes_no_header y hy ne many (segment i k h hi e) = addresses.header_segment s y (variable_at l) i hi e

  pub writes_no_segment : (y j : ℕ) → y < s.t → j < s.w → (y ≡ variable_at l → ⊥) → s.kind ≡ Many
      → Where s me l (segment_at s y j) → ⊥
  writes_no_segment y j hy hj ne many (word one h e) = held.one_not_many one many
  writes_no_segment y j hy hj ne many (row i k h e) = addresses.segment_announce s y me j i hy hj e
  writes_no_segment y j hy hj ne many (header k h e) = addresses.header_segment s (variable_at l) y j hj (sym e)
  writes_no_segment y j hy hj ne many (segment i k h hi e) = ne (addresses.segment_segment s y (variable_at l) j i hj hi e).0

  -- nor another process's announce row
  pub writes_no_row : (q j : ℕ) → j < s.w → (q ≡ me → ⊥) → s.kind ≡ Many → Where s me l (announce_at s q j) → ⊥
  writes_no_row q j hj ne many (word one h e) = held.one_not_many one many
  writes_no_row q j hj ne many (row i k h e) = ne (addresses.announce_announce s q me j i hj h e).0
  writes_no_row q j hj ne many (header k h e) = addresses.header_announce s (variable_at l) q j h (sym e)
  writes_no_row q j hj ne many (segment i k h hi e) = addresses.segment_announce s (variable_at l) q i j h hi (sym e)
