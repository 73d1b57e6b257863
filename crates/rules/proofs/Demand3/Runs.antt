-- Runs of the entry rules: what an event leaves, taken or refused; what a run from a set-up keeps. Assumes nothing.
use mathlib.Core.Path.{◌≡◌, refl, sym, ap, ◌∙◌}
use mathlib.Core.Bool.{Bool, true, false}
use mathlib.Core.List.{List, [], ◌∷◌}
use Prim.Native.Nat.{ℕ, zero, suc, ◌≤◌, ◌<◌}
use native.Mathlib.Omega.{arith}
use lib.Dec.{leb}
use lib.ListN.{length, get_or, replicate}
use lib.Seq.{get_or-set_other}
use borrow.Author.Tests.{leb-true, leb-false}
use Rattle.std.specs.Prelude.{is_ok}
use Rattle.rules.specs.Entry.{fresh_process, fresh_board, fresh_words, set_up_by, set_up_rule, begin_by, begin_rule, stepped, step_by, step_rule}
use Rattle.rules.specs.Processes.{is_idle, nobody, process_at, put_process, refusing}
use Rattle.rules.specs.Refusals.{sizes_check, begin_check, step_check}
use Rattle.rules.specs.Runs.{State, Event, begin, step, given, fresh, run}
use Rattle.rules.specs.Steps.{beginning, process_step}
use Rattle.rules.specs.Types.{Answered, Board, Call, Ok, Err, Idle, Process, Refusal, Settings}
use Rattle.rules.specs.Refusals.{Check}
use Rattle.rules.proofs.Tests.{never}
use Rattle.rules.proofs.Refusals.Checked.{stands, Accepted, Beginning, step_accepted, step_fine, begin_accepted}
use Rattle.rules.proofs.GoodForm.Fresh.{set_up_accepted}
use Rattle.rules.proofs.GoodForm.Runs.{always_in_form}
use Rattle.rules.proofs.Calls.Told.{place_of}

-- what holds of a step that is taken, and of every refusal, holds of every step
pub step_cases : (P : Answered Board × List ℕ → Type 0) (board : Board) (me : ℕ) (words : List ℕ) →
    (Accepted board me words → is_idle (process_at board me).place ≡ false →
    P (stepped board me (process_step board.settings (process_at board me) me words))) →
    ((r : Refusal) → P (refusing board r, words)) → P (step_rule board me words)
unfolding step_rule
step_cases P board me words f g = by (step_check board me words) refl
  where
    by : (k : Check) → step_check board me words ≡ k → P (step_by k board me words)
    by (Ok done) e = let a = step_accepted board me words e in f a.0 a.1
    by (Err r) e = g r

-- what an accepted begin gives
abbrev pub begun : Board → ℕ → Call → List ℕ → Answered Board
begun board me call values = begin_by (Ok tt) board me call values

pub begin_cases : (P : Answered Board → Type 0) (board : Board) (me : ℕ) (call : Call) (values words : List ℕ) →
    (Accepted board me words → Beginning board.settings (process_at board me) call values → P (begun board me call values)) →
    ((r : Refusal) → P (refusing board r)) → P (begin_rule board me call values words)
unfolding begin_rule
begin_cases P board me call values words f g = by (begin_check board me call values words) refl
  where
    by : (k : Check) → begin_check board me call values words ≡ k → P (begin_by k board me call values)
    by (Ok done) e = let a = begin_accepted board me call values words e in f a.0 a.1
    by (Err r) e = g r

-- a set-up gives a board only if its checks pass
pub ready_fine : (s : Settings) (lent : List ℕ) → is_ok (set_up_rule s lent).0 ≡ true → sizes_check s (length lent) ≡ Ok tt
unfolding set_up_rule
ready_fine s lent = by (sizes_check s (length lent))
  where
    by : (k : Check) → is_ok (set_up_by k s lent).0 ≡ true → k ≡ Ok tt
    by (Ok done) e = refl
    by (Err r) e = let z : ◌≡◌ {A = ℕ} 0 1 = cc in absurd (omega arith)

-- a board of these settings, with its 16 processes
pub record BoardOf (s : Settings) (board : Board) : Type 0 where
  pub settings : board.settings ≡ s
  pub sixteen : length board.processes ≡ 16

-- a state of these settings, in its parts; and that a board of them has these
abbrev pub state_of : Settings → List Process → List ℕ → State
state_of s processes words = record { board = record { settings = s; processes = processes }; words = words }

pub as_parts : (s : Settings) (state : State) → BoardOf s state.board → state ≡ state_of s state.board.processes state.words
as_parts s state h = λ i. record { board = record { settings = h.settings i; processes = state.board.processes }; words = state.words }

pub fresh_idle : (n i : ℕ) → (get_or (replicate n fresh_process) i nobody).place ≡ Idle
fresh_idle zero i = refl
fresh_idle (suc n) zero = refl
fresh_idle (suc n) (suc i) = fresh_idle n i

module _ (s : Settings) (lent : List ℕ) (ready : sizes_check s (length lent) ≡ Ok tt) where
  pub fresh_is : fresh s lent ≡ record { board = fresh_board s; words = fresh_words s lent }
  fresh_is = ap given (set_up_accepted s lent ready)

  pub run_shaped : (events : List Event) → BoardOf s (run (fresh s lent) events).board
  run_shaped events =
      let r = always_in_form s lent ready events in
      record { settings = r.settings; sixteen = r.form.shaped.processes }

  -- processes N and above stay idle
  module _ (i : ℕ) (above : s.n ≤ i) where
    -- another process's part is put back
    put_other : (board : Board) (me : ℕ) (words : List ℕ) (p : Process) → board.settings ≡ s → Accepted board me words →
        (process_at board i).place ≡ Idle → (process_at (put_process board me p) i).place ≡ Idle
    put_other board me words p e a h =
        let n : board.settings.n ≡ s.n = ap (λ (u : Settings). u.n) e in
        rw (get_or-set_other board.processes me i p nobody (λ q. omega (arith, a.mine))) h

    idle_above : (events : List Event) → place_of (run (fresh s lent) events) i ≡ Idle
    unfolding run
    idle_above [] = rw fresh_is (fresh_idle 16 i)
    idle_above (begin me call values ∷ events) =
        let state : State = run (fresh s lent) events in
        begin_cases (λ a. (process_at a.after i).place ≡ Idle) state.board me call values state.words
        (λ a b. put_other state.board me state.words (beginning state.board.settings call values
        (process_at state.board me)) (run_shaped events).settings a (idle_above events))
        (λ r. idle_above events)
    idle_above (step me ∷ events) =
        let state : State = run (fresh s lent) events in
        step_cases (λ a. (process_at a.0.after i).place ≡ Idle) state.board me state.words
        (λ a b. put_other state.board me state.words (process_step state.board.settings (process_at state.board me) me
        state.words).0.after (run_shaped events).settings a (idle_above events))
        (λ r. idle_above events)

  -- a process in a call may take its next step
  pub accepts : (events : List Event) (me : ℕ) → is_idle (place_of (run (fresh s lent) events) me) ≡ false →
      step_check (run (fresh s lent) events).board me (run (fresh s lent) events).words ≡ Ok tt
  accepts events me busy =
      let state : State = run (fresh s lent) events in
      let r = always_in_form s lent ready events in
      let z = stands s lent ready in
      step_fine state.board me state.words
      (record {
        sizes = rw r.settings (record { settings = z.settings; room = rw r.long z.room });
        good = r.form.good;
        mine = rw r.settings (below (leb s.n me) refl);
      }) busy
    where
      below : (t : Bool) → leb s.n me ≡ t → me < s.n
      below true e = never (ap is_idle (sym (idle_above me (leb-true s.n me e) events)) ∙ busy)
      below false e = leb-false s.n me e
