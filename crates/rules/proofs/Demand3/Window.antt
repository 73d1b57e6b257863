-- Few stores in all are few since any load: the total premise gives the window premise. Totals only grow, and a sequence has no
-- more stores than there were in all. Assumes nothing.
use mathlib.Core.Path.{◌≡◌, refl, ap, sym, ◌∙◌}
use mathlib.Core.Bool.{Bool, true, false, cond}
use mathlib.Core.List.{List, [], ◌∷◌, ◌++◌}
use Prim.Native.Nat.{ℕ, ◌≤◌, ◌<◌}
use native.Mathlib.Omega.{arith}
use lib.ListN.{length}
use borrow.Author.Tests.{eq-eqb}
use Rattle.rules.specs.Bounds.{Sized}
use Rattle.rules.specs.Demand3.{most_stores, Turn, Few, AllShort, InWindow}
use Rattle.rules.specs.Figure2.{change}
use Rattle.rules.specs.Onlooker.{Seen, Note, quiet, begins, loads, checks, stores, see, variable_in, note_of, watch, seen_in}
use Rattle.rules.specs.OwnSteps.{Own, answer_of, taken, own_in}
use Rattle.rules.specs.Processes.{is_idle, process_at}
use Rattle.rules.specs.Refusals.{sizes_check}
use Rattle.rules.specs.Runs.{State, Event, begin, step, process_of, fresh, run}
use Rattle.rules.specs.Sizes.{bits}
use Rattle.rules.specs.Types.{Reply, Ok, Process, Settings}
use Rattle.rules.proofs.GoodForm.Held.{clauses, place_in}
use Rattle.rules.proofs.GoodForm.Keeps.{process_fits_lem}
use Rattle.rules.proofs.Sizes.Sized.{sized}
use Rattle.rules.proofs.Changes.Places.{variable_at}
use Rattle.rules.proofs.Tests.{never}
use Rattle.rules.proofs.Refusals.Checked.{Accepted, stands}
use Rattle.rules.proofs.Demand3.Called.{told}
use Rattle.rules.proofs.Demand3.Change.{change_all}
use Rattle.rules.proofs.Demand3.Means.{ProcessMeans, alike}
use Rattle.rules.proofs.Demand3.Invariant.Begin.{few_k}
use Rattle.rules.proofs.Demand3.Invariant.Whole.{State as Machine}
use Rattle.rules.proofs.Calls.Told.{place_of, sequence_at}
use Rattle.rules.proofs.Demand3.Runs.{step_cases, ready_fine, BoardOf, run_shaped}
use Rattle.rules.proofs.Demand3.Along.{Stood, along}

-- stores are only ever added
more : (p : ℕ) (n : Note) (o : Seen) → o.total ≤ (see p n o).total
more p quiet o = omega arith
more p begins o = omega arith
more p loads o = omega arith
more p checks o = omega arith
more p (stores new true) o = omega arith
more p (stores new false) o = omega arith

grows : (s : Settings) (event : Event) (answer : Reply) (own : Own) (seen : ℕ → Seen) (y : ℕ)
    → (seen y).total ≤ (watch s event answer own seen y).total
grows s event answer own seen y = by (taken answer)
  where
    by : (t : Bool) → (seen y).total ≤ (cond t (change seen (variable_in event own)
        (see (process_of event) (note_of s event own answer) (seen (variable_in event own)))) seen y).total
    by true = change_all (λ j o. (seen j).total ≤ o.total) seen (variable_in event own)
        (see (process_of event) (note_of s event own answer) (seen (variable_in event own)))
        (more (process_of event) (note_of s event own answer) (seen (variable_in event own))) (λ j n. omega arith) y
    by false = omega arith

grows_by : (start : State) (event : Event) (events : List Event) (x : ℕ) → (seen_in start events x).total ≤ (seen_in start (event ∷ events) x).total
unfolding seen_in
grows_by start event events x =
    grows start.board.settings event (answer_of event (run start events)) (own_in start events (process_of event)) (seen_in start events) x

-- so what holds of the totals of a whole order holds of those before each of its steps
pub grows_on : (start : State) (later events : List Event) (x : ℕ) → (seen_in start events x).total ≤ (seen_in start (later ++ events) x).total
grows_on start [] events x = omega arith
grows_on start (event ∷ later) events x = omega (arith, grows_on start later events x, grows_by start event (later ++ events) x)

-- a sequence has no more stores than there were in all
module _ (s : Settings) (z : Sized s) where
  few_there : (state : State) (seen : ℕ → Seen) (me : ℕ) → BoardOf s state.board → Stood s state seen →
      taken (answer_of (step me) state) ≡ true → sequence_at (place_of state me) ≡ true →
      length ((seen (variable_at (place_of state me))).since me) ≤ (seen (variable_at (place_of state me))).total
  few_there state seen me h S =
      step_cases (λ a. taken a.0.answer ≡ true → sequence_at (place_of state me) ≡ true →
      length ((seen (variable_at (place_of state me))).since me) ≤ (seen (variable_at (place_of state me))).total)
      state.board me state.words (λ a busy g i. there a busy i) (λ r g i. never (sym g))
    where
      there : Accepted state.board me state.words → is_idle (place_of state me) ≡ false → sequence_at (place_of state me) ≡ true →
          length ((seen (variable_at (place_of state me))).since me) ≤ (seen (variable_at (place_of state me))).total
      there t busy i =
          let st : Machine = S.machine in
          let mine : ProcessMeans s.kind s (st.procs me) (process_at state.board me) = S.means.process me (rw h.settings at t.mine) in
          let like = alike s.kind s (st.procs me) (process_at state.board me) mine in
          rw (like.variable busy, S.means.as_seen (st.procs me).at)
          (few_k s.kind s.w me (st.vars (st.procs me).at) (st.rows me) ((st.procs me).sequences (st.procs me).at) (st.procs me).place
          (S.inv.var (st.procs me).at) (rw (eq-eqb (st.procs me).at (st.procs me).at refl) at
          (S.inv.pair me (st.procs me).at)) (like.sequence ∙ i))

  -- .. of a variable below T
  step_variable : (state : State) (me : ℕ) → BoardOf s state.board → taken (answer_of (step me) state) ≡ true → variable_at (place_of state me) < s.t
  step_variable state me h =
      step_cases (λ a. taken a.0.answer ≡ true → variable_at (place_of state me) < s.t) state.board me state.words
      (λ a busy g.
      let p : Process = process_at state.board me in
      let k : state.board.settings.t ≡ s.t = ap (λ (u : Settings). u.t) h.settings in
      omega (
        arith,
        place_in state.board.settings p.opened p.place
            (clauses state.board.settings p (process_fits_lem state.board state.words a.good me a.mine)).place busy,
      ))
      (λ r g. never (sym g))

  short_of_few : (lent : List ℕ) → sizes_check s (length lent) ≡ Ok tt → (events : List Event) →
      ((x : ℕ) → x < s.t → (seen_in (fresh s lent) events x).total ≤ most_stores (bits s)) → AllShort (fresh s lent) (bits s) events
  unfolding AllShort
  short_of_few lent f [] F = tt
  short_of_few lent f (begin me call values ∷ events) F =
      short_of_few lent f events (λ x l. omega (arith, F x l, grows_by (fresh s lent) (begin me call values) events x))
  short_of_few lent f (step me ∷ events) F =
      let state : State = run (fresh s lent) events in
      let G : (x : ℕ) → x < s.t → (seen_in (fresh s lent) events x).total ≤ most_stores (bits s) =
      λ x l. omega (arith, F x l, grows_by (fresh s lent) (step me) events x) in
      let A : AllShort (fresh s lent) (bits s) events = short_of_few lent f events G in (
        λ g i.
            let t = told s lent f events me g in
            rw (← t.variable) (omega (
              arith,
              G (variable_at (place_of state me)) (step_variable state me (run_shaped s lent f events) g),
              few_there state (seen_in (fresh s lent) events) me (run_shaped s lent f events) (along s z lent f events A) g (t.sequence ∙ i),
            )),
        A,
      )

-- few stores in all are few since any load
pub window_of_few : (t : Turn) → Few t → InWindow t
window_of_few t F =
    let s : Settings = t.settings in
    let f : sizes_check s (length t.lent) ≡ Ok tt = ready_fine s t.lent t.ready in
    short_of_few s (sized s (stands s t.lent f).settings) t.lent f (step t.me ∷ t.events) F
