-- Every step keeps good form, place by place: its process stays in form, and so do the words. Assumes nothing.
use mathlib.Core.Path.{◌≡◌, refl, sym, subst}
use mathlib.Core.Bool.{true, cond}
use mathlib.Core.List.{List}
use Prim.Native.Nat.{ℕ, ◌+◌, ◌-◌, ◌^◌, ◌≤◌, ◌<◌}
use native.Mathlib.Omega.{arith}
use borrow.Author.Tests.{ltb-true, lt-ltb}
use lib.Dec.{eqb, ltb}
use lib.ListN.{get_or}
use lib.Pow.{pow_mono}
use Rattle.word.specs.Word.{tag_of, value_of, next_tag, previous_tag, tag_limit, value_limit}
use Rattle.word.proofs.Laws.{value_word, value_lt, word_lt, tag_lt, next_lt}
use Rattle.rules.specs.Bounds.{Sized}
use Rattle.rules.specs.Figure4.{Step, new_word}
use Rattle.rules.specs.Figure6.{new_header, saving, copy_on}
use Rattle.rules.specs.GoodForm.{names, value_fits, one_place, many_place, one_place_open, many_place_open, header_held, segment_held, copy_held, value_held, place_fits}
use Rattle.rules.specs.Processes.{at, kept_of, with_open, closing, gathering_anew}
use Rattle.rules.specs.Sizes.{bits, word_at, header_at, segment_at, announce_at, word_of, header_of, segment_of}
use Rattle.rules.specs.Steps.{step_from}
use Rattle.rules.proofs.Sizes.Addresses.{number_fits, header_announce, segment_announce, header_segment}
use Rattle.rules.proofs.Branches.{branch, both_arms}
use Rattle.rules.proofs.Sequences.Closing.{opening_opens}
use Rattle.rules.proofs.Changes.Frame.{saves}
use Rattle.rules.proofs.GoodForm.Held as held
use Rattle.rules.specs.InForm.{held_header, Sound, Clean}
use Rattle.rules.specs.Types.{Copy, Many, Answered, Process, Place, Idle, LoadReadsWord, ValidateReadsWord, StoreSwapsWord, LoadReadsHeader, ValidateReadsHeader, StoreReadsHeader, StoreAnnounces, StoreSwapsHeader, ReadsSegment, ReadsAnnounced, SwapsSegment, ReadsSegmentAgain, ReadsHeader, Settings}
use Rattle.rules.proofs.GoodForm.Sounds as sounds
use Rattle.rules.proofs.Tests.{and_left, and_both}
use Rattle.rules.proofs.GoodForm.Written.{header_names, announced_fits, header_bounded, write_one, write_many}

pub record Kept (s : Settings) (step : Step) : Type 0 where
  pub process : Sound s step.0.after
  pub words : Clean s step.1

module _ (s : Settings) (z : Sized s) (p : Process) (me : ℕ) (mine : me < s.n) (words : List ℕ)
    (sound : Sound s p) (clean : Clean s words) where
  fits : (v : ℕ) → v < value_limit (bits s) → value_fits s v ≡ true
  unfolding value_fits
  fits v h = lt-ltb _ _ h

  -- a value in a call fits a word
  value_fits_lem : (i : ℕ) → i < 4 → get_or p.values i 0 < value_limit (bits s)
  value_fits_lem i h = held.value_in s p (held.in_form_lem s p sound.form) i h

  below_word : {v : ℕ} → v < value_limit (bits s) → v < 2 ^ 64
  below_word {v} h =
      let k : 64 - bits s ≤ 64 = omega arith in
      omega (arith, pow_mono k)

  -- the new header names this process, and is a word
  new_names : (header : ℕ) → names s (new_header s me header) ≡ true
  unfolding names
  new_names header =
      let own = value_word (bits s) (next_tag (bits s) (tag_of (bits s) header)) (number_fits s z mine) in
      lt-ltb _ _ (subst (λ (v : ℕ). v < s.n) (sym own) mine)

  new_small : (header : ℕ) → new_header s me header < 2 ^ 64
  new_small header = word_lt (bits s) z.b_most (next_lt (bits s) (tag_of (bits s) header)) (number_fits s z mine)

  -- a place that holds a header and a segment, and one that holds a value too
  holds : (opened x header i : ℕ) → many_place_open s opened x ≡ true → names s header ≡ true → i < s.w
      → segment_held s opened x header i ≡ true
  unfolding segment_held header_held
  holds opened x header i wide named h = and_both _ _ (and_both _ _ wide named) (lt-ltb _ _ h)

  next_held : (opened x header i j : ℕ) → segment_held s opened x header i ≡ true → j < s.w → segment_held s opened x header j ≡ true
  unfolding segment_held
  next_held opened x header i j ok h = and_both _ _ (held.segment s opened x header i ok) (lt-ltb _ _ h)

  holds_value : (c : Copy) (v : ℕ) → copy_held s p.opened c ≡ true → v < value_limit (bits s) → value_held s p.opened c v ≡ true
  unfolding value_held
  holds_value c v ok h = and_both _ _ ok (fits v h)

  opened_at : (x : ℕ) → many_place s x ≡ true → many_place_open s (with_open p.opened x) x ≡ true
  unfolding many_place_open
  opened_at x ok = and_both _ _ ok (opening_opens x p)

  load_word : (x : ℕ) → one_place s x ≡ true → Kept s (step_from (LoadReadsWord x) s p me words)
  load_word x ok =
      let tag : s.kind ≡ Many → word_of x words < tag_limit (bits s) = λ many. held.one_not_many (held.kind_one s x ok) many in
      record { process = sounds.opens s p sound x (word_of x words) (held.one_in s x ok) tag Idle refl (omega arith); words = clean }

  store_word : (x : ℕ) → one_place_open s p.opened x ≡ true → Kept s (step_from (StoreSwapsWord x) s p me words)
  store_word x ok =
      let small = word_lt (bits s) z.b_most (next_lt (bits s) (tag_of (bits s) (kept_of x p))) (value_fits_lem 0 (omega arith)) in
      let one = held.kind_one s x (held.one_open s p.opened x ok) in
      both_arms (Kept s) (eqb (word_of x words) (kept_of x p)) _ _
      (record { process = sounds.shuts s p sound x; words = write_one s words clean (word_at x) (new_word s p x) small one })
      (record { process = sounds.shuts s p sound x; words = clean })

  load_header : (x : ℕ) → many_place s x ≡ true → Kept s (step_from (LoadReadsHeader x) s p me words)
  load_header x ok =
      let many = held.kind_many s x ok in
      let in' = held.many_in s x ok in
      let small = header_bounded s words clean many z x in' in
      let named = header_names s words clean many x in' in
      let place = holds (with_open p.opened x) x (header_of s x words) 0 (opened_at x ok) named z.w_least in
      record {
        process = sounds.opens s (gathering_anew p) (sounds.gathers_anew s p sound) x (tag_of (bits s) (header_of s x words)) in'
            (λ e. tag_lt (bits s) z.b_most small) _ place small;
        words = clean;
      }

  store_header : (x : ℕ) → many_place_open s p.opened x ≡ true → Kept s (step_from (StoreReadsHeader x) s p me words)
  store_header x ok =
      let at_x = held.many_open s p.opened x ok in
      let many = held.kind_many s x at_x in
      let in' = held.many_in s x at_x in
      let small = header_bounded s words clean many z x in' in
      let place = holds p.opened x (header_of s x words) 0 ok (header_names s words clean many x in') z.w_least in
      both_arms (Kept s) (eqb (tag_of (bits s) (header_of s x words)) (kept_of x p)) _ _
      (record { process = sounds.moves s p sound (StoreAnnounces x (header_of s x words) 0) place small; words = clean })
      (record { process = sounds.shuts s p sound x; words = clean })

  announce : (x header i : ℕ) → segment_held s p.opened x header i ≡ true → header < 2 ^ 64
      → Kept s (step_from (StoreAnnounces x header i) s p me words)
  announce x header i ok small =
      let at_header = held.segment s p.opened x header i ok in
      let many = held.kind_many s x (held.held s p.opened x header at_header) in
      let below : i < s.w = held.segment_in s p.opened x header i ok in
      let value = value_fits_lem i (omega (arith, z.w_most)) in
      record {
        process = branch (λ (l : Place). Sound s (at l p)) (ltb (i + 1) s.w) _ _
            (λ e. sounds.moves s p sound _ (next_held p.opened x header i (i + 1) ok (ltb-true _ _ e)) small)
            (λ e. sounds.moves s p sound _ at_header small);
        words = write_many s words clean (announce_at s me i) (get_or p.values i 0) (below_word value) many
            (λ y h q. absurd (header_announce s y me i h q)) (λ q j h hj e. fits _ value);
      }

  swap_header : (x header : ℕ) → header_held s p.opened x header ≡ true → Kept s (step_from (StoreSwapsHeader x header) s p me words)
  unfolding header_held
  swap_header x header ok =
      let at_x = held.held s p.opened x header ok in
      let many = held.kind_many s x at_x in
      let wide = and_left (many_place_open s p.opened x) (names s header) ok in
      let place = holds p.opened x (new_header s me header) 0 wide (new_names header) z.w_least in
      both_arms (Kept s) (eqb (header_of s x words) header) _ _
      (record {
        process = sounds.moves s p sound _ place (new_small header);
        words = write_many s words clean (header_at s x) (new_header s me header) (new_small header) many
            (λ y h q. new_names header) (λ q j h hj e. absurd (header_announce s x q j (held.many_in s x at_x) (sym e)));
      })
      (record { process = sounds.shuts s p sound x; words = clean })

  -- Copy: what its places hold
  module _ (c : Copy) (ok : copy_held s p.opened c ≡ true) (small : c.header < 2 ^ 64) where
    at_header : header_held s p.opened c.variable c.header ≡ true
    at_header = held.segment s p.opened c.variable c.header c.segment ok

    at_variable : many_place s c.variable ≡ true
    at_variable = held.held s p.opened c.variable c.header at_header

    many : s.kind ≡ Many
    many = held.kind_many s c.variable at_variable

    below : c.segment < s.w
    below = held.segment_in s p.opened c.variable c.header c.segment ok

    -- with the value of a word, Copy reads the header
    to_header : (v : ℕ) → v < value_limit (bits s) → Sound s (at (ReadsHeader c v) p)
    to_header v h = sounds.moves s p sound (ReadsHeader c v) (holds_value c v ok h) small

    read_segment : Kept s (step_from (ReadsSegment c) s p me words)
    read_segment =
        both_arms (Kept s)
        (eqb (tag_of (bits s) (segment_of s c.variable c.segment words)) (previous_tag (bits s) (tag_of (bits s) c.header))) _ _
        (record { process = sounds.moves s p sound (ReadsAnnounced c _) ok small; words = clean })
        (record { process = to_header _ (value_lt (bits s) _); words = clean })

    read_announced : (read : ℕ) → Kept s (step_from (ReadsAnnounced c read) s p me words)
    unfolding value_held
    read_announced read =
        let names_one = held.held_names s p.opened c.variable c.header at_header in
        let place = and_both _ _ ok (announced_fits s words clean many (value_of (bits s) c.header) c.segment names_one below) in
        record { process = sounds.moves s p sound (SwapsSegment c read _) place small; words = clean }

    swap_segment : (read announced : ℕ) → announced < value_limit (bits s)
        → Kept s (step_from (SwapsSegment c read announced) s p me words)
    swap_segment read announced h =
        let new = word_lt (bits s) z.b_most (tag_lt (bits s) z.b_most small) h in
        let in' = held.many_in s c.variable at_variable in
        both_arms (Kept s) (eqb (segment_of s c.variable c.segment words) read) _ _
        (record {
          process = to_header announced h;
          words = write_many s words clean (segment_at s c.variable c.segment) _ new many
              (λ y hy q. absurd (header_segment s y c.variable c.segment below q))
              (λ q j hq hj e. absurd (segment_announce s c.variable q c.segment j in' below (sym e)));
        })
        (record { process = sounds.moves s p sound (ReadsSegmentAgain c) ok small; words = clean })

    read_again : Kept s (step_from (ReadsSegmentAgain c) s p me words)
    read_again = record { process = to_header _ (value_lt (bits s) _); words = clean }

    -- a load ends, or a store, which closes its sequence
    ends_call : (q : Process) → Sound s q → (one two : Answered Process) → one.after ≡ at Idle q
        → two.after ≡ at Idle (closing c.variable q) → Sound s (cond c.gathers one two).after
    ends_call q sq one two e f =
        both_arms (λ (m : Answered Process). Sound s m.after) c.gathers one two
        (subst (Sound s) (sym e) (sounds.idles s q sq)) (subst (Sound s) (sym f) (sounds.shuts s q sq c.variable))

    goes_on_lem : (q : Process) → Sound s q → q.opened ≡ p.opened → Sound s (copy_on s c q).after
    goes_on_lem q sq same =
        let held_in_q = subst (λ (m : ℕ). segment_held s m c.variable c.header c.segment ≡ true) (sym same) ok in
        branch (λ (m : Answered Process). Sound s m.after) (ltb (c.segment + 1) s.w) _ _
        (λ e. sounds.moves s q sq (ReadsSegment _)
        (next_held q.opened c.variable c.header c.segment (c.segment + 1) held_in_q (ltb-true _ _ e)) small)
        (λ e. ends_call q sq _ _ refl refl)

    read_header : (value : ℕ) → value_fits s value ≡ true → Kept s (step_from (ReadsHeader c value) s p me words)
    read_header value h =
        both_arms (Kept s) (eqb (header_of s c.variable words) c.header) _ _
        (record { process = goes_on_lem (saving c value p) (sounds.saves s p sound c value h) (saves c value p).opened; words = clean })
        (record { process = ends_call p sound _ _ refl refl; words = clean })

  pub kept : (l : Place) → place_fits s p.opened l ≡ true → held_header l < 2 ^ 64 → Kept s (step_from l s p me words)
  kept Idle ok small = record { process = sound; words = clean }
  kept (LoadReadsWord x) ok small = load_word x ok
  kept (ValidateReadsWord x) ok small = record { process = sounds.idles s p sound; words = clean }
  kept (StoreSwapsWord x) ok small = store_word x ok
  kept (LoadReadsHeader x) ok small = load_header x ok
  kept (ValidateReadsHeader x) ok small = record { process = sounds.idles s p sound; words = clean }
  kept (StoreReadsHeader x) ok small = store_header x ok
  kept (StoreAnnounces x header i) ok small = announce x header i ok small
  kept (StoreSwapsHeader x header) ok small = swap_header x header ok
  kept (ReadsSegment c) ok small = read_segment c ok small
  kept (ReadsAnnounced c read) ok small = read_announced c ok small read
  kept (SwapsSegment c read announced) ok small =
      swap_segment c (held.held_copy s p.opened announced c ok) small read announced (held.held_value s p.opened announced c ok)
  kept (ReadsSegmentAgain c) ok small = read_again c ok small
  kept (ReadsHeader c value) ok small =
      read_header c (held.held_copy s p.opened value c ok) small value (fits value (held.held_value s p.opened value c ok))
