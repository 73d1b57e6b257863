-- What good form gives at each place. Assumes nothing.
use mathlib.Core.Path.{◌≡◌, refl, subst}
use mathlib.Core.Bool.{Bool, true, false, ◌&&◌}
use Prim.Native.Nat.{ℕ, ◌≤◌, ◌<◌}
use lib.Dec.{ltb}
use lib.ListN.{get_or}
use native.Mathlib.Omega.{arith}
use borrow.Author.Tests.{ltb-true}
use Rattle.word.specs.Word.{value_limit, value_of}
use Rattle.rules.specs.GoodForm.{names, value_fits, one_place, many_place, one_place_open, many_place_open, header_held, segment_held, value_held, place_fits, values_fit, kept_fit, open_fits, process_fits}
use Rattle.rules.specs.InForm.{Clauses}
use Rattle.rules.proofs.Changes.Places.{variable_at}
use Rattle.rules.specs.Processes.{is_idle, is_open}
use Rattle.rules.specs.Sizes.{bits, is_one, is_many, words_used, used_by}
use Rattle.rules.specs.Types.{Copy, Kind, One, Many, Place, Idle, LoadReadsWord, ValidateReadsWord, StoreSwapsWord, LoadReadsHeader, ValidateReadsHeader, StoreReadsHeader, StoreAnnounces, StoreSwapsHeader, ReadsSegment, ReadsAnnounced, SwapsSegment, ReadsSegmentAgain, ReadsHeader, Process, Settings}
use Rattle.rules.proofs.Tests.{never, and_left, and_right, all_at}

pub one_kind : (k : Kind) → is_one k ≡ true → k ≡ One
one_kind One e = refl
one_kind Many e = cc

pub many_kind : (k : Kind) → is_many k ≡ true → k ≡ Many
many_kind One e = cc
many_kind Many e = refl

pub one_not_many : {A : Type 0} {k : Kind} → k ≡ One → k ≡ Many → A
one_not_many one many = let z : ◌≡◌ {A = ℕ} 0 1 = cc in absurd (omega arith)

module _ (s : Settings) where
  pub kind_one : (x : ℕ) → one_place s x ≡ true → s.kind ≡ One
  unfolding one_place
  kind_one x e = one_kind s.kind (and_left (is_one s.kind) (ltb x s.t) e)

  pub kind_many : (x : ℕ) → many_place s x ≡ true → s.kind ≡ Many
  unfolding many_place
  kind_many x e = many_kind s.kind (and_left (is_many s.kind) (ltb x s.t) e)

  pub many_used_by : s.kind ≡ Many → (n : ℕ) → words_used s ≤ n → used_by Many s ≤ n
  many_used_by e n h = rw e at h

  pub one_in : (x : ℕ) → one_place s x ≡ true → x < s.t
  unfolding one_place
  one_in x e = ltb-true _ _ (and_right (is_one s.kind) (ltb x s.t) e)

  pub one_used : (x n : ℕ) → one_place s x ≡ true → words_used s ≤ n → s.t ≤ n
  one_used x n e h = rw (kind_one x e) at h

  pub many_in : (x : ℕ) → many_place s x ≡ true → x < s.t
  unfolding many_place
  many_in x e = ltb-true _ _ (and_right (is_many s.kind) (ltb x s.t) e)

  pub many_used : (x n : ℕ) → many_place s x ≡ true → words_used s ≤ n → used_by Many s ≤ n
  many_used x n e h = many_used_by (kind_many x e) n h

  pub one_open : (m x : ℕ) → one_place_open s m x ≡ true → one_place s x ≡ true
  unfolding one_place_open
  one_open m x e = and_left (one_place s x) (is_open m x) e

  pub many_open : (m x : ℕ) → many_place_open s m x ≡ true → many_place s x ≡ true
  unfolding many_place_open
  many_open m x e = and_left (many_place s x) (is_open m x) e

  pub held : (m x h : ℕ) → header_held s m x h ≡ true → many_place s x ≡ true
  unfolding header_held
  held m x h e = many_open m x (and_left (many_place_open s m x) (names s h) e)

  pub held_names : (m x h : ℕ) → header_held s m x h ≡ true → value_of (bits s) h < s.n
  unfolding header_held names
  held_names m x h e = ltb-true _ _ (and_right (many_place_open s m x) (names s h) e)

  pub segment : (m x h k : ℕ) → segment_held s m x h k ≡ true → header_held s m x h ≡ true
  unfolding segment_held
  segment m x h k e = and_left (header_held s m x h) (ltb k s.w) e

  pub segment_in : (m x h k : ℕ) → segment_held s m x h k ≡ true → k < s.w
  unfolding segment_held
  segment_in m x h k e = ltb-true _ _ (and_right (header_held s m x h) (ltb k s.w) e)

  pub held_copy : (m v : ℕ) (c : Copy) → value_held s m c v ≡ true → segment_held s m c.variable c.header c.segment ≡ true
  unfolding value_held
  held_copy m v c e = and_left (segment_held s m c.variable c.header c.segment) (value_fits s v) e

  pub held_value : (m v : ℕ) (c : Copy) → value_held s m c v ≡ true → v < value_limit (bits s)
  unfolding value_held value_fits
  held_value m v c e = ltb-true _ _ (and_right (segment_held s m c.variable c.header c.segment) (value_fits s v) e)

module _ (s : Settings) (p : Process) where
  pub clauses : process_fits s p ≡ true → Clauses s p
  unfolding process_fits
  clauses e =
      let place : Bool = place_fits s p.opened p.place in
      let sequences : Bool = open_fits s p.opened in
      let kept : Bool = kept_fit s p.keep in
      let values : Bool = values_fit s p.values in
      let four = and_left (place && sequences && kept && values) (values_fit s p.gathered) e in
      let three = and_left (place && sequences && kept) values four in
      let two = and_left (place && sequences) kept three in
      record {
        place = and_left place sequences two;
        sequences = and_right place sequences two;
        kept = and_right (place && sequences) kept three;
        values = and_right (place && sequences && kept) values four;
        gathered = and_right (place && sequences && kept && values) (values_fit s p.gathered) e;
      }

  pub in_form_lem : Clauses s p → process_fits s p ≡ true
  unfolding process_fits
  in_form_lem k = rw (k.place, k.sequences, k.kept, k.values, k.gathered)

  pub at_place : process_fits s p ≡ true → (l : Place) → p.place ≡ l → place_fits s p.opened l ≡ true
  at_place e l q = subst (λ (x : Place). place_fits s p.opened x ≡ true) q (clauses e).place

  pub value_in : process_fits s p ≡ true → (i : ℕ) → i < 4 → get_or p.values i 0 < value_limit (bits s)
  unfolding values_fit value_fits
  value_in e i h = ltb-true _ _ (all_at (λ j. ltb (get_or p.values j 0) (value_limit (bits s))) i 4 (clauses e).values h)

-- the variable of a call in progress is below T
pub place_in : (s : Settings) (m : ℕ) (place : Place) → place_fits s m place ≡ true → is_idle place ≡ false → variable_at place < s.t
place_in s m Idle f i = never i
place_in s m (LoadReadsWord x) f i = one_in s x f
place_in s m (ValidateReadsWord x) f i = one_in s x (one_open s m x f)
place_in s m (StoreSwapsWord x) f i = one_in s x (one_open s m x f)
place_in s m (LoadReadsHeader x) f i = many_in s x f
place_in s m (ValidateReadsHeader x) f i = many_in s x (many_open s m x f)
place_in s m (StoreReadsHeader x) f i = many_in s x (many_open s m x f)
place_in s m (StoreAnnounces x header j) f i = many_in s x (held s m x header (segment s m x header j f))
place_in s m (StoreSwapsHeader x header) f i = many_in s x (held s m x header f)
place_in s m (ReadsSegment c) f i = many_in s c.variable
    (held s m c.variable c.header (segment s m c.variable c.header c.segment f))
place_in s m (ReadsAnnounced c read) f i = many_in s c.variable
    (held s m c.variable c.header (segment s m c.variable c.header c.segment f))
place_in s m (SwapsSegment c read u) f i = many_in s c.variable
    (held s m c.variable c.header (segment s m c.variable c.header c.segment (held_copy s m u c f)))
place_in s m (ReadsSegmentAgain c) f i = many_in s c.variable
    (held s m c.variable c.header (segment s m c.variable c.header c.segment f))
place_in s m (ReadsHeader c u) f i = many_in s c.variable
    (held s m c.variable c.header (segment s m c.variable c.header c.segment (held_copy s m u c f)))
