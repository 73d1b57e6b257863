-- How many steps a call takes: always, whatever the others do. Each step that the board takes brings its process nearer
-- the end of its call. Assumes nothing.
use mathlib.Core.Path.{◌≡◌, refl, sym, ap, ◌∙◌, subst}
use mathlib.Core.Bool.{Bool, true, false, cond, not}
use mathlib.Core.List.{List}
use Prim.Native.Nat.{ℕ, suc, ◌+◌, ◌-◌, ◌*◌, ◌≤◌, ◌<◌}
use native.Mathlib.Omega.{arith}
use lib.Dec.{eqb, ltb}
use lib.ListN.{length}
use borrow.Author.Tests.{ltb-true}
use Rattle.word.specs.Word.{tag_of, previous_tag}
use Rattle.rules.specs.Demand3.{Turn, before, own, StepsBounded}
use Rattle.rules.specs.Entry.{step_by, step_rule}
use Rattle.rules.specs.Figure4.{Step}
use Rattle.rules.specs.Figure6.{saving, copy_on, copy_cut_short}
use Rattle.rules.specs.GoodForm.{place_fits}
use Rattle.rules.specs.OwnSteps.{Own, taken, most_steps_by, most_steps, own_in}
use Rattle.rules.specs.Processes.{process_at, is_idle, kept_of}
use Rattle.rules.specs.Refusals.{sizes_check, step_check}
use Rattle.rules.specs.Runs.{Event, fresh, run}
use Rattle.rules.specs.Sizes.{bits, word_of, header_of, segment_of}
use Rattle.rules.specs.Steps.{first_place, step_from, process_step}
use Rattle.rules.specs.Types.{Ok, Copy, Board, Call, Load, Validate, Store, Kind, One, Many, Answered, Process, Place, Idle, LoadReadsWord, ValidateReadsWord, StoreSwapsWord, LoadReadsHeader, ValidateReadsHeader, StoreReadsHeader, StoreAnnounces, StoreSwapsHeader, ReadsSegment, ReadsAnnounced, SwapsSegment, ReadsSegmentAgain, ReadsHeader, Settings}
use Rattle.rules.specs.Refusals.{Check}
use Rattle.rules.proofs.Tests.{never}
use Rattle.rules.proofs.GoodForm.Held.{segment_in}
use Rattle.rules.proofs.Refusals.Checked.{step_accepted}
use Rattle.rules.proofs.Changes.Frame.{framed}
use Rattle.rules.proofs.Branches.{branch, both_arms}
use Rattle.rules.proofs.Demand3.Called.{called, told}
use Rattle.rules.proofs.Demand3.Owns.{each_own}
use Rattle.rules.proofs.Calls.Told.{place_of}
use Rattle.rules.proofs.Demand3.Runs.{ready_fine, accepts}

-- the steps that are left from a place, at most; w segments
abbrev left : ℕ → Place → ℕ
left w Idle = 0
left w (LoadReadsWord x) = 1
left w (ValidateReadsWord x) = 1
left w (StoreSwapsWord x) = 1
left w (LoadReadsHeader x) = 1 + 5 * w
left w (ValidateReadsHeader x) = 1
left w (StoreReadsHeader x) = 2 + 6 * w
left w (StoreAnnounces x header i) = (w - i) + 1 + 5 * w
left w (StoreSwapsHeader x header) = 1 + 5 * w
left w (ReadsSegment c) = 5 * (w - suc c.segment) + 5
left w (ReadsAnnounced c read) = 5 * (w - suc c.segment) + 4
left w (SwapsSegment c read announced) = 5 * (w - suc c.segment) + 3
left w (ReadsSegmentAgain c) = 5 * (w - suc c.segment) + 2
left w (ReadsHeader c value) = 5 * (w - suc c.segment) + 1

-- a step brings its process nearer the end
abbrev Nearer : ℕ → Place → Step → Type 0
Nearer w place r = left w r.0.after.place < left w place

module _ (s : Settings) (p : Process) (me : ℕ) (words : List ℕ) (pos : 1 ≤ s.w) where
  -- the rest of Copy
  on : (c : Copy) (value : ℕ) (q : Process) → Nearer s.w (ReadsHeader c value) (copy_on s c q, words)
  on c value q =
      branch (λ (r : Answered Process). Nearer s.w (ReadsHeader c value) (r, words)) (ltb (c.segment + 1) s.w) _ _
      (λ e. omega (arith, ltb-true (c.segment + 1) s.w e))
      (λ e. both_arms (λ (r : Answered Process). Nearer s.w (ReadsHeader c value) (r, words)) c.gathers _ _
      (omega arith) (omega arith))

  short : (c : Copy) (value header : ℕ) → Nearer s.w (ReadsHeader c value) (copy_cut_short s c header p, words)
  short c value header =
      both_arms (λ (r : Answered Process). Nearer s.w (ReadsHeader c value) (r, words)) c.gathers _ _
      (omega arith) (omega arith)

  announced : (x header j : ℕ) → j < s.w → (t : Bool) → ltb (j + 1) s.w ≡ t →
      left s.w (cond t (StoreAnnounces x header (j + 1)) (StoreSwapsHeader x header)) < left s.w (StoreAnnounces x header j)
  announced x header j l true e = omega (arith, ltb-true (j + 1) s.w e)
  announced x header j l false e = omega arith

  nearer : (m : ℕ) (place : Place) → place_fits s m place ≡ true → is_idle place ≡ false → Nearer s.w place (step_from place s p me words)
  nearer m Idle f i = never i
  nearer m (LoadReadsWord x) f i = omega arith
  nearer m (ValidateReadsWord x) f i = omega arith
  nearer m (StoreSwapsWord x) f i =
      both_arms (Nearer s.w (StoreSwapsWord x)) (eqb (word_of x words) (kept_of x p)) _ _
      (omega arith) (omega arith)
  nearer m (LoadReadsHeader x) f i = omega arith
  nearer m (ValidateReadsHeader x) f i =
      omega arith
  nearer m (StoreReadsHeader x) f i =
      both_arms (Nearer s.w (StoreReadsHeader x)) (eqb (tag_of (bits s) (header_of s x words)) (kept_of x p)) _ _
      (omega arith) (omega arith)
  nearer m (StoreAnnounces x header j) f i =
      announced x header j (segment_in s m x header j f) (ltb (j + 1) s.w) refl
  nearer m (StoreSwapsHeader x header) f i =
      both_arms (Nearer s.w (StoreSwapsHeader x header)) (eqb (header_of s x words) header) _ _
      (omega arith) (omega arith)
  nearer m (ReadsSegment c) f i =
      both_arms (Nearer s.w (ReadsSegment c))
      (eqb (tag_of (bits s) (segment_of s c.variable c.segment words)) (previous_tag (bits s) (tag_of (bits s) c.header))) _ _
      (omega arith) (omega arith)
  nearer m (ReadsAnnounced c read) f i = omega arith
  nearer m (SwapsSegment c read announced) f i =
      both_arms (Nearer s.w (SwapsSegment c read announced)) (eqb (segment_of s c.variable c.segment words) read) _ _
      (omega arith) (omega arith)
  nearer m (ReadsSegmentAgain c) f i = omega arith
  nearer m (ReadsHeader c value) f i =
      both_arms (Nearer s.w (ReadsHeader c value)) (eqb (header_of s c.variable words) c.header) _ _
      (on c value (saving c value p)) (short c value (header_of s c.variable words))

-- the steps taken and the steps left come to no more than the most
abbrev Timed : Settings → Own → Process → Type 0
Timed s own p = own.steps + left s.w p.place ≤ most_steps s own.call

first_timed : (k : Kind) (w : ℕ) (call : Call) → left w (first_place k call) ≤ most_steps_by k w call
first_timed One w (Load x) = omega arith
first_timed One w (Validate x) = omega arith
first_timed One w (Store x) = omega arith
first_timed Many w (Load x) = omega arith
first_timed Many w (Validate x) = omega arith
first_timed Many w (Store x) = omega arith

timed : (s : Settings) (lent : List ℕ) → sizes_check s (length lent) ≡ Ok tt → (events : List Event) (q : ℕ) →
    Timed s (own_in (fresh s lent) events q) (process_at (run (fresh s lent) events).board q)
timed s lent ready =
    each_own s (Timed s)
    (λ call values p. omega (arith, first_timed s.kind s.w call))
    (λ own p me words fits busy pos h. omega (arith, h, nearer s p me words pos p.opened p.place fits busy))
    lent ready (omega arith) (omega arith)

-- a process in a call has a step left
some_left : (w : ℕ) (place : Place) → is_idle place ≡ false → 0 < left w place
some_left w Idle i = never i
some_left w (LoadReadsWord x) i = omega arith
some_left w (ValidateReadsWord x) i = omega arith
some_left w (StoreSwapsWord x) i = omega arith
some_left w (LoadReadsHeader x) i = omega arith
some_left w (ValidateReadsHeader x) i = omega arith
some_left w (StoreReadsHeader x) i = omega arith
some_left w (StoreAnnounces x header j) i = omega arith
some_left w (StoreSwapsHeader x header) i = omega arith
some_left w (ReadsSegment c) i = omega arith
some_left w (ReadsAnnounced c read) i = omega arith
some_left w (SwapsSegment c read announced) i = omega arith
some_left w (ReadsSegmentAgain c) i = omega arith
some_left w (ReadsHeader c value) i = omega arith

-- a step whose check passes is taken
passes : (board : Board) (me : ℕ) (words : List ℕ) → step_check board me words ≡ Ok tt → taken (step_rule board me words).0.answer ≡ true
unfolding step_rule process_step
passes board me words e =
    let a = step_accepted board me words e in
    let p : Process = process_at board me in
    subst (λ (k : Check). taken (step_by k board me words).0.answer ≡ true) (sym e)
    (framed p.place board.settings p me words a.1).own.answers

abbrev fine_of : (t : Turn) → sizes_check t.settings (length t.lent) ≡ Ok tt
fine_of t = ready_fine t.settings t.lent t.ready

sum_of : (t : Turn) → (own t).steps + left t.settings.w (place_of (before t) t.me) ≤ most_steps t.settings (own t).call
sum_of t = timed t.settings t.lent (fine_of t) t.events t.me

-- a process is idle exactly if it waits for no answer
idle_of : (t : Turn) → is_idle (place_of (before t) t.me) ≡ not (own t).waits
idle_of t = (called t.settings t.lent (fine_of t) t.events t.me).idle

in_call : (t : Turn) → (own t).waits ≡ true → is_idle (place_of (before t) t.me) ≡ false
in_call t w = idle_of t ∙ ap not w

pub bounded : StepsBounded
bounded =
    record {
      never_more = λ t. omega (arith, sum_of t);
      answered_by_then = λ t w. omega (arith, sum_of t, some_left t.settings.w (place_of (before t) t.me) (in_call t w));
      never_refused = λ t w. passes (before t).board t.me (before t).words
          (accepts t.settings t.lent (fine_of t) t.events t.me (in_call t w));
      idle_if_answered = idle_of;
      answers_its_call = λ t g. (told t.settings t.lent (fine_of t) t.events t.me g).answers;
    }
