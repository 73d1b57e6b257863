-- Every begin and step of a board that stands for a state of the machine gives one that stands for the machine's next state; and
-- a step's answer is right. Assumes nothing.
use mathlib.Core.Path.{◌≡◌, refl, ap, sym, ◌∙◌}
use mathlib.Core.Bool.{true, false, cond}
use mathlib.Core.List.{List, [], ◌∷◌}
use Prim.Native.Nat.{ℕ, ◌+◌, ◌≤◌, ◌<◌}
use native.Mathlib.Omega.{arith}
use lib.ListN.{length, get_or, set, length-set}
use lib.Seq.{get_or-set_same, get_or-set_other}
use borrow.Author.Tests.{eq-eqb, not-false}
use Rattle.word.specs.Word.{tag_limit}
use Rattle.rules.specs.Bounds.{Sized}
use Rattle.rules.specs.Demand3.{Another}
use Rattle.rules.specs.Entry.{stepped}
use Rattle.rules.specs.Figure2.{change, content, truth}
use Rattle.rules.specs.Figure4.{Step}
use Rattle.rules.specs.GoodForm.{process_fits}
use Rattle.rules.specs.Onlooker.{Seen, Note, begins, see}
use Rattle.rules.specs.OwnSteps.{taken}
use Rattle.rules.specs.Processes.{is_idle, is_open, nobody}
use Rattle.rules.specs.Refusals.{variable_of, lacks_sequence}
use Rattle.rules.specs.Sizes.{bits}
use Rattle.rules.specs.Steps.{first_place, beginning, step_from, process_step}
use Rattle.rules.specs.Types.{Reply, Begun, Ok, Busy, Value, Witness, Yes, No, Err, Answered, Board, Call, Load, Validate, Store, Kind, One, Many, Process, Settings}
use Rattle.rules.proofs.Changes.Frame.{framed}
use Rattle.rules.proofs.Changes.Places.{variable_at}
use Rattle.rules.proofs.GoodForm.Held as form
use Rattle.rules.proofs.Refusals.Checked.{Accepted, Beginning}
use Rattle.rules.proofs.GoodForm.Keeps.{process_fits_lem}
use Rattle.rules.proofs.Demand3.Change.{change_same, change_id, change_all, change_both}
use Rattle.rules.proofs.Demand3.Invariant.Begin.{first_of, Has, past}
use Rattle.rules.proofs.Demand3.Invariant.Kinds.{Right, Counts, width, VarInvK, PairK, FineK}
use Rattle.rules.proofs.Demand3.Invariant.Whole.{Proc, State, Inv, out_at, apply, begun, fine, stepped as machine_stepped, begin_kept}
use Rattle.rules.proofs.Demand3.Link.Keeping.{Held}
use Rattle.rules.proofs.Demand3.Link.Many.{link_many}
use Rattle.rules.proofs.Demand3.Link.Memory.{MemK, WroteK, put_kind}
use Rattle.rules.proofs.Demand3.Link.One.{link_one}
use Rattle.rules.proofs.Demand3.Link.Stands.{at_place, one_load, one_validate, one_store, at_load, at_validate, at_store, StandsK, Says, says_busy, says_values, says_witness, says_yes, says_no, Linked}
use Rattle.rules.proofs.Demand3.Machine.{Told, Place as Stand, idle, Sequence, Var, none, Core, Out, anew, rules}
use Rattle.rules.proofs.Calls.Told.{note_at, sequence_at, values_at}
use Rattle.rules.proofs.Demand3.Runs as runs
use Rattle.rules.proofs.Demand3.Means.{ProcessMeans, BoardMeans, alike}

-- an answer of the board is right, by what was seen of its variable
abbrev pub RightAnswer : ℕ → ℕ → Seen → Reply → Type 0
RightAnswer W p o (Ok Begun) = Unit {0}
RightAnswer W p o (Ok Busy) = Unit {0}
RightAnswer W p o (Ok (Value l)) = (o.since p ≡ []) × ((d : ℕ → ℕ) × (o.due p ≡ content d) × ((i : ℕ) → i < W → at_place l i ≡ d i))
RightAnswer W p o (Ok (Witness q)) = (m : List ℕ) × (o.since p ≡ q ∷ m)
RightAnswer W p o (Ok Yes) = o.due p ≡ truth true
RightAnswer W p o (Ok No) = (o.due p ≡ truth false) × Another p (o.since p)
RightAnswer W p o (Err r) = Unit {0}

right_said : (W p : ℕ) (o : Seen) (told : Told) (a : Reply) → Says W told a → Right W p o told → RightAnswer W p o a
right_said W p o told a says_busy R = tt
right_said W p o told a (says_values f) R = (R.0, (R.1.0, R.1.1, λ i h. f i h ∙ R.1.2 i h))
right_said W p o told a (says_witness e) R = (R.0, rw e R.1)
right_said W p o told a says_yes R = R.0
right_said W p o told a says_no R = (R.0, R.1 refl)

-- the step of either kind
link : (k : Kind) (s : Settings) → Sized s → (p x : ℕ) (vars : ℕ → Var) (rows : ℕ → ℕ → ℕ) (sequences : ℕ → Sequence)
    (q : Process) (words : List ℕ) →
    p < s.n → x < s.t → MemK k s vars rows words → Held k s sequences q.keep q.opened → process_fits s q ≡ true →
    VarInvK k s.w (vars x) → (stand : Stand) → StandsK k (bits s) x q.values q.gathered q.place stand → is_idle q.place ≡ false →
    PairK k s.w p (vars x) (rows p) (sequences x) stand → (past stand ≡ true → length ((vars x).seen.since p) + 2 ≤ tag_limit (bits s)) →
    Linked k s p x q.place q words sequences (step_from q.place s q p words) (rules k s.w p (vars x) rows (sequences x) stand)
link One s z p x vars rows sequences q words pn xt M H f I stand S i P B =
    link_one s z p x (vars x) rows sequences q words xt H (M.word x xt) (form.value_in s q f 0 (omega arith)) q.place stand S i P B
link Many s z p x vars rows sequences q words pn xt M H f I stand S i P B =
    link_many s z p x (vars x) rows sequences q words pn xt H (M.header x xt) (M.segment x xt) M.row I q.place stand S i
    (form.clauses s q f).place P B

wrote_none : (k : Kind) (s : Settings) (p x : ℕ) (words : List ℕ) → WroteK k s p x none words words
wrote_none One s p x words = refl
wrote_none Many s p x words = refl

first_stands : (k : Kind) (b : ℕ) (call : Call) (new got : List ℕ) →
    StandsK k b (variable_of call) new got (first_place k call) (first_of call (at_place new))
first_stands One b (Load x) new got = one_load
first_stands One b (Validate x) new got = one_validate
first_stands One b (Store x) new got = one_store
first_stands Many b (Load x) new got = at_load
first_stands Many b (Validate x) new got = at_validate
first_stands Many b (Store x) new got = at_store

has : (call : Call) (opened : ℕ) (q : Sequence) → lacks_sequence call opened ≡ false → is_open opened (variable_of call) ≡ q.opened → Has call q
has (Load x) opened q l e = tt
has (Validate x) opened q l e = sym e ∙ not-false (is_open opened x) l
has (Store x) opened q l e = sym e ∙ not-false (is_open opened x) l

module _ (s : Settings) (z : Sized s) (st : State) (I : Inv s.kind s.w st) (processes : List Process) (words : List ℕ) (seen : ℕ → Seen)
    (R : BoardMeans s st processes words seen) (me : ℕ) where
  abbrev board : Board
  board = record { settings = s; processes = processes }

  abbrev q : Process
  q = get_or processes me nobody

  -- what the onlooker saw, by an answer
  abbrev sees : ℕ → Note → Reply → ℕ → Seen
  sees x note a = cond (taken a) (change seen x (see me note (seen x))) seen

  -- the process's own part is put back
  put_process_lem : (q' : Process) (r : Proc) → me < s.n → ProcessMeans s.kind s r q' →
      (p : ℕ) → p < s.n → ProcessMeans s.kind s (change st.procs me r p) (get_or (set processes me q') p nobody)
  put_process_lem q' r mn h = change_all (λ p a. p < s.n → ProcessMeans s.kind s a (get_or (set processes me q') p nobody)) st.procs me r
      (λ l. rw (get_or-set_same processes me q' nobody (omega (arith, R.sixteen, z.n_most))) h)
      (λ p n l. rw (get_or-set_other processes me p q' nobody n) (R.process p l))

  -- a begin
  pub record BeginFollows (call : Call) (a : Answered Board) : Type 0 where
    pub next : State
    pub inv : Inv s.kind s.w next
    pub means : BoardMeans s next a.after.processes words (sees (variable_of call) begins a.answer)

  pub begin_follows : (call : Call) (values : List ℕ) → Accepted board me words → Beginning s q call values →
      BeginFollows call (runs.begun board me call values)
  begin_follows call values a t =
      let x : ℕ = variable_of call in
      let mine : ProcessMeans s.kind s (st.procs me) q = R.process me a.mine in
      let resting : (st.procs me).place ≡ idle = (alike s.kind s (st.procs me) q mine).idle' t.idle in
      record {
        next = begun st me x (first_of call (at_place values));
        inv = begin_kept s.kind s.w st I me resting x call (at_place values)
            (has call q.opened ((st.procs me).sequences x) t.sequence (mine.held.open' x));
        means = record {
          sixteen = length-set processes me (beginning s call values q) ∙ R.sixteen;
          memory = rw (change_id st.rows me) at
              (put_kind s.kind s z st.vars st.rows words R.memory me x a.mine t.variable (anew me (st.vars x)) none words
              (wrote_none s.kind s me x words) refl refl);
          process = put_process_lem (beginning s call values q)
              (record { at = x; place = first_of call (at_place values); sequences = (st.procs me).sequences }) a.mine
              (record { stands = first_stands s.kind (bits s) call values q.gathered; held = mine.held });
          as_seen = change_both (λ y a c. a ≡ c.seen) seen st.vars x (see me begins (seen x)) (anew me (st.vars x))
              (ap (see me begins) (R.as_seen x)) (λ y n. R.as_seen y);
        };
      }

  -- a step: the variable of the call; what the machine does and leaves; what the board does
  abbrev there : ℕ
  there = (st.procs me).at

  abbrev core : Core
  core = rules s.kind s.w me (st.vars there) st.rows ((st.procs me).sequences there) (st.procs me).place

  abbrev out : Out
  out = out_at s.kind s.w st me there

  abbrev result : Step
  result = step_from q.place s q me words

  abbrev sees_step : Reply → ℕ → Seen
  sees_step a = sees (variable_at q.place) (note_at q.place (values_at q) a) a

  pub record StepFollows (a : Answered Board × List ℕ) : Type 0 where
    pub next : State
    pub inv : Inv s.kind s.w next
    pub means : BoardMeans s next a.0.after.processes a.1 (sees_step a.0.answer)
    pub right : RightAnswer (width s.kind s.w) me (sees_step a.0.answer (variable_at q.place)) a.0.answer
    pub counts : taken a.0.answer ≡ true → Counts me (sees_step a.0.answer (variable_at q.place))
        (note_at q.place (values_at q) a.0.answer)

  pub step_follows : Accepted board me words → is_idle q.place ≡ false →
      (taken (process_step s q me words).0.answer ≡ true → sequence_at q.place ≡ true →
      length ((seen (variable_at q.place)).since me) + 2 ≤ tag_limit (bits s)) →
      StepFollows (stepped board me (process_step s q me words))
  unfolding process_step
  step_follows t still B = follows
    where
      mn : me < s.n
      mn = t.mine

      fits : process_fits s q ≡ true
      fits = process_fits_lem board words t.good me t.mine

      mine : ProcessMeans s.kind s (st.procs me) q
      mine = R.process me mn

      same_variable : variable_at q.place ≡ there
      same_variable = (alike s.kind s (st.procs me) q mine).variable still

      xt : there < s.t
      xt = rw same_variable at (form.place_in s q.opened q.place (form.clauses s q fits).place still)

      pair : PairK s.kind s.w me (st.vars there) (st.rows me) ((st.procs me).sequences there) (st.procs me).place
      pair = rw (eq-eqb there there refl) at (I.pair me there)

      got : taken result.0.answer ≡ true
      got = (framed q.place s q me words still).own.answers

      short : past (st.procs me).place ≡ true → length ((st.vars there).seen.since me) + 2 ≤ tag_limit (bits s)
      short e = rw (← (R.as_seen there), ← same_variable) (B got (sym (alike s.kind s (st.procs me) q mine).sequence ∙ e))

      L : Linked s.kind s me there q.place q words (st.procs me).sequences result
          core
      L = link s.kind s z me there st.vars st.rows (st.procs me).sequences q words mn xt R.memory mine.held fits
          (I.var there) (st.procs me).place mine.stands still pair short

      fine_step : FineK s.kind s.w me (st.vars there) out
      fine_step = fine s.kind s.w z.w_least st I me there refl

      -- what is seen is what the machine saw
      seen_same : (y : ℕ) → sees_step result.0.answer y
          ≡ (change st.vars there out.var y).seen
      seen_same = rw (got, same_variable, L.note)
          (change_both (λ y a c. a ≡ c.seen) seen st.vars there
          (see me core.note (seen there)) out.var
          (ap (see me core.note) (R.as_seen there)) (λ y n. R.as_seen y))

      seen_there : sees_step result.0.answer (variable_at q.place)
          ≡ out.var.seen
      seen_there = seen_same (variable_at q.place) ∙ ap (λ (y : ℕ). (change st.vars there out.var y).seen) same_variable
          ∙ ap (λ (v : Var). v.seen) (change_same st.vars there out.var)

      follows : StepFollows (stepped board me result)
      follows = record {
        next = apply st me there out;
        inv = machine_stepped s.kind s.w z.w_least st I me there refl;
        means = record {
          sixteen = length-set processes me result.0.after ∙ R.sixteen;
          memory = put_kind s.kind s z st.vars st.rows words R.memory me there mn xt
              out.var core.put result.1 L.wrote refl refl;
          process = put_process_lem result.0.after
              (record { at = there; place = core.place; sequences = change (st.procs me).sequences there core.sequence }) mn
              (record { stands = L.stands; held = L.held });
          as_seen = seen_same;
        };
        right = rw seen_there (right_said (width s.kind s.w) me out.var.seen
            core.told result.0.answer L.says fine_step.right);
        counts = λ g. rw (seen_there, L.note) fine_step.counts;
      }
