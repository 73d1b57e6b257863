-- For callers: a start is ready, and what the output holds grows and stays within it. Assumes nothing.
use Prim.Native.Nat.{ℕ, ◌+◌, ◌-◌, ◌≤◌}
use mathlib.Core.Path.{◌≡◌, refl, sym, ap, ◌∙◌, subst}
use mathlib.Core.Bool.{Bool, true, false, cond}
use mathlib.Core.List.{List, [], ◌∷◌}
use native.Mathlib.Omega.{arith}
use borrow.Author.Tests.{ltb-false, le-leb}
use lib.Dec.{eqb}
use lib.ListN.{length, replicate}
use lib.Seq.{sets, length-sets}
use Rattle.printout.specs.Row.{heading}
use Rattle.printout.specs.Writing.{Written, put_heading, longest_row}
use Rattle.schedule.specs.Feeding.{Feeding, feeding, session_of, holding, telling, record_answered, byte_gathered, take_in, take_byte, is_full, same_stage, feed_of, finish_in, finish_of}
use Rattle.schedule.specs.Gathering.{line_length, bytes_of, put, closes}
use Rattle.schedule.specs.Ready.{Ready}
use Rattle.answers.specs.Run.{beginning_run, record_told}
use Rattle.schedule.specs.WholeInput.{started}
use Rattle.schedule.specs.declared.Session.{Session}
use Rattle.answers.specs.declared.Stage.{Stage}
use Rattle.answers.specs.declared.Stage.TheVariants.{Waiting, Running, Over}
use Rattle.schedule.proofs.FedOn.{has_room}
use Rattle.schedule.proofs.Owed.{told_short}

-- what the output holds lies within it
abbrev pub Within : Feeding → Type 0
Within f = f.len ≤ length f.out

-- and is no less than before
abbrev pub Grown : Feeding → Feeding → Type 0
Grown f after = Within after × (f.len ≤ after.len)

answered_grown : (f : Feeding) → is_full f ≡ false → Grown f (record_answered f)
unfolding is_full telling
answered_grown f room =
    let free : longest_row ≤ length f.out - f.len = ltb-false _ _ room in
    let short = told_short f.run (bytes_of f.held) in
    (omega (arith, length-sets f.out f.len (record_told f.run (bytes_of f.held)).printed), omega arith)

gathered_grown : (f : Feeding) (byte : ℕ) → is_full f ≡ false → Within f → Grown f (byte_gathered f byte)
unfolding is_full
gathered_grown f byte room within = go (closes f.held byte)
  where
    go : (t : Bool) → Grown f (cond t (record_answered (holding f (put f.held byte))) (holding f (put f.held byte)))
    go true = answered_grown (holding f (put f.held byte)) room
    go false = (within, omega arith)

taken_grown : (s : Stage) (f : Feeding) (byte : ℕ) → is_full f ≡ false → Within f → Grown f (take_in s f byte)
taken_grown Waiting f byte room within = gathered_grown f byte room within
taken_grown (Running board) f byte room within = gathered_grown f byte room within
taken_grown Over f byte room within = (within, omega arith)

grown_on : (f g h : Feeding) → Grown f g → Grown g h → Grown f h
grown_on f g h first second = (second.0, omega (arith, first.1, second.1))

feed_grown : (f : Feeding) (bytes : List ℕ) → Within f → Grown f (feed_of f bytes).0
unfolding feed_of take_byte
feed_grown f [] within = (within, omega arith)
feed_grown f (byte ∷ bytes) within =
    go (is_full f) refl (same_stage f.run (take_byte f byte).run) (λ next. feed_grown (take_byte f byte) bytes next.0)
  where
    go : (full : Bool) → is_full f ≡ full → (same : Bool)
        → (Grown f (take_byte f byte) → Grown (take_byte f byte) (feed_of (take_byte f byte) bytes).0)
        → Grown f (cond full (f, byte ∷ bytes) (cond same (feed_of (take_byte f byte) bytes) (take_byte f byte, bytes))).0
    go true e same rest = (within, omega arith)
    go false e true rest =
        let next = taken_grown f.run.stage f byte e within in
        grown_on f (take_byte f byte) (feed_of (take_byte f byte) bytes).0 next (rest next)
    go false e false rest = taken_grown f.run.stage f byte e within

pub fed_grown : (f after : Feeding) (bytes left : List ℕ) → ◌≡◌ {A = Feeding × List ℕ} (after, left) (feed_of f bytes) → Within f → Grown f after
fed_grown f after bytes left e within = subst (λ (r : Feeding × List ℕ). Grown f r.0) (sym e) (feed_grown f bytes within)

pub finished_grown : (f after : Feeding) → after ≡ finish_of f → longest_row ≤ length f.out - f.len → Grown f after
unfolding finish_of
finished_grown f after e room = subst (Grown f) (sym e) (go (eqb f.held.held 0))
  where
    go : (t : Bool) → Grown f (finish_in t f)
    go true = (omega arith, omega arith)
    go false = answered_grown f (has_room f room)

pub start_ready : (session : Session) (line words : List ℕ) → session ≡ session_of beginning_run → length line ≡ line_length → Ready session line words
start_ready session line words e long =
    subst (λ (s : Session). Ready s line words) (sym e) (record { order = tt; held = omega arith; long = long })

-- `start`, a line and 144 words that are 0 make the caller with which the whole-input theorem begins
pub start_is : (session : Session) (line out out_after : List ℕ) (len : ℕ) → session ≡ session_of beginning_run
    → ◌≡◌ {A = Written} (out_after, len) (put_heading out 0) → longest_row ≤ length out
    → feeding session line (replicate 144 0) out_after len ≡ (started line out).feeding
start_is session line out out_after len e put room =
    let fits : length heading ≤ length out - 0 = omega arith in
    let whole = put ∙ ap (λ (t : Bool). cond t (sets out 0 heading, 0 + length heading) (out, 0)) (le-leb (length heading) (length out - 0) fits) in
    ap (λ (s : Session). feeding s line (replicate 144 0) out_after len) e
    ∙ ap (λ (w : Written). feeding (session_of beginning_run) line (replicate 144 0) w.0 w.1) whole

pub started_within : (line out : List ℕ) (f : Feeding) → f ≡ (started line out).feeding → longest_row ≤ length out → Within f
started_within line out f e room = subst Within (sym e) (omega (arith, length-sets out 0 heading))
