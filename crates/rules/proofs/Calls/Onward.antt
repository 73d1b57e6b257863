-- A step leaves its process in the call that it began (Begun); the process is idle after it exactly if the step answers, and
-- what it answers is an answer to that call; and the place tells of the step what an onlooker sees from outside. Shown place
-- by place. Assumes nothing.
use mathlib.Core.Path.{◌≡◌, refl, sym, ap, ◌∙◌, subst}
use mathlib.Core.Bool.{Bool, true, false, cond, not}
use mathlib.Core.List.{List}
use Prim.Native.Nat.{ℕ, suc, ◌+◌, ◌≤◌, ◌<◌}
use native.Mathlib.Omega.{arith}
use lib.Dec.{eqb, ltb}
use borrow.Author.Tests.{eq-eqb, ne_eqb, ltb-false}
use Rattle.word.specs.Word.{tag_of, previous_tag}
use Rattle.rules.specs.Figure4.{Step}
use Rattle.rules.specs.Figure6.{saving, copy_on}
use Rattle.rules.specs.Onlooker.{quiet, stores, is_no, before_swap, note_by}
use Rattle.rules.specs.OwnSteps.{is_busy, answers_load, answers_test, answers_call}
use Rattle.rules.specs.Processes.{is_idle, kept_of, ends}
use Rattle.rules.specs.Sizes.{bits, word_of, header_of, segment_of}
use Rattle.rules.specs.Steps.{step_from}
use Rattle.rules.specs.Types.{Answer, Reply, Busy, Ok, Yes, Copy, Call, Validate, Store, Kind, One, Many, Answered, Process, Place, Idle, LoadReadsWord, ValidateReadsWord, StoreSwapsWord, LoadReadsHeader, ValidateReadsHeader, StoreReadsHeader, StoreAnnounces, StoreSwapsHeader, ReadsSegment, ReadsAnnounced, SwapsSegment, ReadsSegmentAgain, ReadsHeader, Settings}
use Rattle.rules.proofs.Branches.{both_arms}
use Rattle.rules.proofs.Tests.{never}
use Rattle.rules.proofs.Calls.Begun.{is_copying, copy_in, Copies, in_load, in_store, Begun, at_rest, loads_word, validates_word, stores_word, loads_header, validates_header, stores_header, announces, swaps, copies}
use Rattle.rules.proofs.Calls.Told.{note_at}

-- what a step from place l makes of a process that has taken so many steps in its call
pub record Onward (s : Settings) (call : Call) (steps : ℕ) (l : Place) (r : Answered Process) : Type 0 where
  pub begun : Begun s.w call (suc steps) r.after.place
  pub idle : is_idle r.after.place ≡ not (is_busy r.answer)
  pub answers : is_busy r.answer ≡ false → answers_call call r.answer ≡ true
  pub note : (new : ℕ → ℕ) → note_at l new r.answer ≡ note_by (before_swap s.kind s.w) call new steps r.answer

-- as the onlooker notes it
abbrev Noted : Settings → Call → ℕ → Place → Reply → Type 0
Noted s call steps l a = (new : ℕ → ℕ) → note_at l new a ≡ note_by (before_swap s.kind s.w) call new steps a

-- what good form says of a place, as far as it is needed here
abbrev pub Placed : Settings → Place → Type 0
Placed s Idle = Unit {0}
Placed s (LoadReadsWord x) = Unit {0}
Placed s (ValidateReadsWord x) = Unit {0}
Placed s (StoreSwapsWord x) = s.kind ≡ One
Placed s (LoadReadsHeader x) = Unit {0}
Placed s (ValidateReadsHeader x) = Unit {0}
Placed s (StoreReadsHeader x) = s.kind ≡ Many
Placed s (StoreAnnounces x header i) = (s.kind ≡ Many) × (i < s.w)
Placed s (StoreSwapsHeader x header) = s.kind ≡ Many
Placed s (ReadsSegment c) = Unit {0}
Placed s (ReadsAnnounced c read) = Unit {0}
Placed s (SwapsSegment c read announced) = Unit {0}
Placed s (ReadsSegmentAgain c) = Unit {0}
Placed s (ReadsHeader c value) = Unit {0}

-- a call that goes on, and one that ends; nothing else of the process plays a part
goes_on_lem : {s : Settings} {call : Call} {steps : ℕ} {l : Place} (r : Answered Process) → is_busy r.answer ≡ true → is_idle r.after.place ≡ false
    → Begun s.w call (suc steps) r.after.place → Noted s call steps l r.answer → Onward s call steps l r
goes_on_lem r t i b n = record { begun = b; idle = i ∙ ap not (sym t); answers = λ f. never (sym t ∙ f); note = n }

answered : {s : Settings} {call : Call} {steps : ℕ} {l : Place} (r : Answered Process) → r.after.place ≡ Idle → is_busy r.answer ≡ false
    → answers_call call r.answer ≡ true → Noted s call steps l r.answer → Onward s call steps l r
answered {s} {call} {steps} r rest t a n =
    record {
      begun = subst (Begun s.w call (suc steps)) (sym rest) at_rest;
      idle = ap is_idle rest ∙ ap not (sym t);
      answers = λ f. a;
      note = n;
    }

-- the swap comes after these steps of a store, at the latest
before_most : (k : Kind) (w : ℕ) → before_swap k w ≤ 1 + w
before_most One w = omega arith
before_most Many w = omega arith

-- a store that goes on or says yes is noted at its swap alone
before_swap_lem : (s : Settings) (x steps : ℕ) (l : Place) (a : Reply) → is_no a ≡ false → ((new : ℕ → ℕ) → note_at l new a ≡ quiet)
    → (steps ≡ before_swap s.kind s.w → ⊥) → Noted s (Store x) steps l a
before_swap_lem s x steps l a e q n new = rw (e, ne_eqb steps (before_swap s.kind s.w) n) (q new)

at_swap : (s : Settings) (x steps : ℕ) (l : Place) (a : Reply) → is_no a ≡ false → ((new : ℕ → ℕ) → note_at l new a ≡ stores new true)
    → steps ≡ before_swap s.kind s.w → Noted s (Store x) steps l a
at_swap s x steps l a e q n new = rw (e, eq-eqb steps (before_swap s.kind s.w) n) (q new)

many_before : (s : Settings) → s.kind ≡ Many → before_swap s.kind s.w ≡ 1 + s.w
many_before s e = ap (λ (k : Kind). before_swap k s.w) e

one_before : (s : Settings) → s.kind ≡ One → before_swap s.kind s.w ≡ 0
one_before s e = ap (λ (k : Kind). before_swap k s.w) e

-- from a place in Copy, at which nothing is noted
module _ (s : Settings) (l : Place) (still : (new : ℕ → ℕ) (a : Reply) → note_at l new a ≡ quiet) where
  copy_noted : {call : Call} {x steps : ℕ} {g : Bool} (a : Reply) → is_no a ≡ false → Copies s.w call steps x g → Noted s call steps l a
  copy_noted a e (in_load {steps = n} h) = λ new. rw (ne_eqb n 0 (omega arith)) (still new a)
  copy_noted a e (in_store {x = x} {steps = n} h) =
      before_swap_lem s x n l a e (λ new. still new a) (λ q. omega (arith, before_most s.kind s.w))

  copies_on : {call : Call} {x steps : ℕ} {g : Bool} → Copies s.w call steps x g → Copies s.w call (suc steps) x g
  copies_on (in_load {steps = n} h) = in_load {steps = suc n} (omega arith)
  copies_on (in_store {steps = n} h) = in_store {steps = suc n} (omega arith)

  -- Copy goes on
  copying : {call : Call} {steps : ℕ} (r : Answered Process) → is_busy r.answer ≡ true → is_no r.answer ≡ false → is_idle r.after.place ≡ false
      → is_copying r.after.place ≡ true → Copies s.w call steps (copy_in r.after.place).variable (copy_in r.after.place).gathers
      → Onward s call steps l r
  copying r t e i c h = goes_on_lem r t i (copies c (copies_on h)) (copy_noted r.answer e h)

  -- Copy is through, or cut short: a load answers as a load does, a store yes
  copy_ends : {call : Call} {x steps : ℕ} {g : Bool} → Copies s.w call steps x g → (a b : Answered Process)
      → a.after.place ≡ Idle → is_busy a.answer ≡ false → is_no a.answer ≡ false → answers_load a.answer ≡ true
      → b.after.place ≡ Idle → is_busy b.answer ≡ false → is_no b.answer ≡ false → answers_test b.answer ≡ true
      → Onward s call steps l (cond g a b)
  copy_ends (in_load {x = x} m) a b rest t e f rest' t' e' f' = answered a rest t f (copy_noted a.answer e (in_load {x = x} m))
  copy_ends (in_store {x = x} m) a b rest t e f rest' t' e' f' = answered b rest' t' f' (copy_noted b.answer e' (in_store {x = x} m))

module _ (s : Settings) (p : Process) (me : ℕ) (words : List ℕ) where
  -- Copy's end of a segment, with the same header
  copied_on : {call : Call} {steps : ℕ} (c : Copy) (value : ℕ) (q : Process) → Copies s.w call steps c.variable c.gathers
      → Onward s call steps (ReadsHeader c value) (copy_on s c q)
  copied_on {call} {steps} c value q h =
      both_arms (Onward s call steps (ReadsHeader c value)) (ltb (c.segment + 1) s.w) _ _
      (copying s (ReadsHeader c value) (λ new a. refl) _ refl refl refl refl h)
      (copy_ends s (ReadsHeader c value) (λ new a. refl) h _ _ refl refl refl refl refl refl refl refl)

  -- at each place of Copy
  onward_copy : {call : Call} {steps : ℕ} (l : Place) → is_copying l ≡ true → Copies s.w call steps (copy_in l).variable (copy_in l).gathers
      → Onward s call steps l (step_from l s p me words).0
  onward_copy Idle e h = never (sym e)
  onward_copy (LoadReadsWord x) e h = never (sym e)
  onward_copy (ValidateReadsWord x) e h = never (sym e)
  onward_copy (StoreSwapsWord x) e h = never (sym e)
  onward_copy (LoadReadsHeader x) e h = never (sym e)
  onward_copy (ValidateReadsHeader x) e h = never (sym e)
  onward_copy (StoreReadsHeader x) e h = never (sym e)
  onward_copy (StoreAnnounces x header i) e h = never (sym e)
  onward_copy (StoreSwapsHeader x header) e h = never (sym e)
  onward_copy {call} {steps} (ReadsSegment c) e h =
      both_arms (λ (r : Step). Onward s call steps (ReadsSegment c) r.0)
      (eqb (tag_of (bits s) (segment_of s c.variable c.segment words)) (previous_tag (bits s) (tag_of (bits s) c.header))) _ _
      (copying s (ReadsSegment c) (λ new a. refl) _ refl refl refl refl h)
      (copying s (ReadsSegment c) (λ new a. refl) _ refl refl refl refl h)
  onward_copy (ReadsAnnounced c read) e h = copying s (ReadsAnnounced c read) (λ new a. refl) _ refl refl refl refl h
  onward_copy {call} {steps} (SwapsSegment c read value) e h =
      both_arms (λ (r : Step). Onward s call steps (SwapsSegment c read value) r.0)
      (eqb (segment_of s c.variable c.segment words) read) _ _
      (copying s (SwapsSegment c read value) (λ new a. refl) _ refl refl refl refl h)
      (copying s (SwapsSegment c read value) (λ new a. refl) _ refl refl refl refl h)
  onward_copy (ReadsSegmentAgain c) e h = copying s (ReadsSegmentAgain c) (λ new a. refl) _ refl refl refl refl h
  onward_copy {call} {steps} (ReadsHeader c value) e h =
      both_arms (λ (r : Step). Onward s call steps (ReadsHeader c value) r.0) (eqb (header_of s c.variable words) c.header) _ _
      (copied_on c value (saving c value p) h)
      (copy_ends s (ReadsHeader c value) (λ new a. refl) h _ _ refl refl refl refl refl refl refl refl)

  -- the row is written, and the next place or the header's turn comes
  announced_on : (x h i steps : ℕ) → steps ≡ 1 + i → i < s.w → (more : Bool) → ltb (i + 1) s.w ≡ more
      → Begun s.w (Store x) (suc steps) (cond more (StoreAnnounces x h (i + 1)) (StoreSwapsHeader x h))
  announced_on x h i steps e l true t = announces {i = i + 1} {steps = suc steps} (omega arith)
  announced_on x h i steps e l false t = swaps {steps = suc steps} (omega (arith, ltb-false (i + 1) s.w t))

  announcing_busy : (x h i : ℕ) (more : Bool) → is_idle (cond more (StoreAnnounces x h (i + 1)) (StoreSwapsHeader x h)) ≡ false
  announcing_busy x h i true = refl
  announcing_busy x h i false = refl

  pub onward : {call : Call} {steps : ℕ} {l : Place} → Begun s.w call steps l → is_idle l ≡ false → Placed s l
      → Onward s call steps l (step_from l s p me words).0
  onward at_rest busy f = never busy
  onward loads_word busy f = answered _ refl refl refl (λ new. refl)
  onward (validates_word {x = x}) busy f =
      both_arms (λ (a : Answer). Onward s (Validate x) 0 (ValidateReadsWord x) (ends (Ok a) p)) (eqb (word_of x words) (kept_of x p)) _ _
      (answered _ refl refl refl (λ new. refl))
      (answered _ refl refl refl (λ new. refl))
  onward (stores_word {x = x}) busy one =
      both_arms (λ (r : Step). Onward s (Store x) 0 (StoreSwapsWord x) r.0) (eqb (word_of x words) (kept_of x p)) _ _
      (answered _ refl refl refl (at_swap s x 0 (StoreSwapsWord x) (Ok Yes) refl (λ new. refl) (sym (one_before s one))))
      (answered _ refl refl refl (λ new. refl))
  onward (loads_header {x = x}) busy f = goes_on_lem _ refl refl (copies refl (in_load {steps = 1} (omega arith))) (λ new. refl)
  onward (validates_header {x = x}) busy f =
      both_arms (λ (a : Answer). Onward s (Validate x) 0 (ValidateReadsHeader x) (ends (Ok a) p))
      (eqb (tag_of (bits s) (header_of s x words)) (kept_of x p)) _ _
      (answered _ refl refl refl (λ new. refl))
      (answered _ refl refl refl (λ new. refl))
  onward (stores_header {x = x}) busy many =
      let later = many_before s many in
      both_arms (λ (r : Step). Onward s (Store x) 0 (StoreReadsHeader x) r.0) (eqb (tag_of (bits s) (header_of s x words)) (kept_of x p)) _ _
      (goes_on_lem _ refl refl (announces refl) (before_swap_lem s x 0 (StoreReadsHeader x) (Ok Busy) refl (λ new. refl) (λ q. omega arith)))
      (answered _ refl refl refl (λ new. refl))
  onward (announces {x = x} {h = h} {i = i} {steps = n} e) busy f =
      let later = many_before s f.0 in
      let l : i < s.w = f.1 in
      goes_on_lem _ refl (announcing_busy x h i (ltb (i + 1) s.w)) (announced_on x h i n e l (ltb (i + 1) s.w) refl)
      (before_swap_lem s x n (StoreAnnounces x h i) (Ok Busy) refl (λ new. refl) (λ q. omega arith))
  onward (swaps {x = x} {h = h} {steps = n} e) busy many =
      both_arms (λ (r : Step). Onward s (Store x) n (StoreSwapsHeader x h) r.0) (eqb (header_of s x words) h) _ _
      (goes_on_lem _ refl refl (copies refl (in_store {steps = suc n} (omega arith)))
      (at_swap s x n (StoreSwapsHeader x h) (Ok Busy) refl (λ new. refl) (e ∙ sym (many_before s many))))
      (answered _ refl refl refl (λ new. refl))
  onward (copies {l = l} e h) busy f = onward_copy l e h
