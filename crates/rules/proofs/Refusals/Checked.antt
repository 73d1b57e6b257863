-- What an accepted check gives, and that it is given wherever these hold. Assumes nothing.
use mathlib.Core.Path.{◌≡◌, refl}
use mathlib.Core.Bool.{Bool, true, false}
use mathlib.Core.List.{List}
use Prim.Native.Nat.{ℕ, ◌≤◌, ◌<◌}
use native.Mathlib.Omega.{arith}
use borrow.Author.Tests.{ltb-false, leb-false, not-false, le-ltb, lt-leb}
use lib.ListN.{length}
use Rattle.std.specs.Result.{result_and}
use Rattle.rules.specs.GoodForm.{in_good_form}
use Rattle.rules.specs.Processes.{is_idle, process_at}
use Rattle.rules.specs.Refusals.{Check, refuse_if, sizes_check, process_check, variable_of, lacks_sequence, values_right, call_check, begin_check, step_check}
use Rattle.rules.specs.Sizes.{settings_fit, words_used}
use Rattle.rules.specs.Types.{Board, Call, Ok, Err, Process, Settings, Refusal}

refused_fine : {A : Type 0} (r : Refusal) → ◌≡◌ {A = Check} (Err r) (Ok tt) → A
refused_fine r e = let z : ◌≡◌ {A = ℕ} 0 1 = cc in absurd (omega arith)

refuse_fine : (test : Bool) (r : Refusal) (rest : Check) → refuse_if test r rest ≡ Ok tt → (test ≡ false) × (rest ≡ Ok tt)
refuse_fine true r rest e = refused_fine r e
refuse_fine false r rest e = (refl, e)

then_fine : (a b : Check) → result_and a b ≡ Ok tt → (a ≡ Ok tt) × (b ≡ Ok tt)
then_fine (Ok done) b e = (refl, e)
then_fine (Err r) b e = refused_fine r e

-- the settings stand, and the words used are lent
pub record Stands (s : Settings) (words : List ℕ) : Type 0 where
  pub settings : settings_fit s ≡ true
  pub room : words_used s ≤ length words

pub stands : (s : Settings) (words : List ℕ) → sizes_check s (length words) ≡ Ok tt → Stands s words
unfolding sizes_check
stands s words e =
    let one = refuse_fine _ _ _ e in
    let two = refuse_fine _ _ _ one.1 in
    record { settings = not-false _ one.0; room = ltb-false _ _ two.0 }

pub stands_fine : (s : Settings) (words : List ℕ) → Stands s words → sizes_check s (length words) ≡ Ok tt
unfolding sizes_check
stands_fine s words h = rw (h.settings, le-ltb (length words) (words_used s) h.room)

-- .. and the board is in good form, and me is one of its processes
pub record Accepted (board : Board) (me : ℕ) (words : List ℕ) : Type 0 where
  pub sizes : Stands board.settings words
  pub good : in_good_form board words ≡ true
  pub mine : me < board.settings.n

module _ (board : Board) (me : ℕ) (words : List ℕ) where
  pub accepted : process_check board me words ≡ Ok tt → Accepted board me words
  unfolding process_check
  accepted e =
      let first = then_fine _ _ e in
      let three = refuse_fine _ _ _ first.1 in
      let four = refuse_fine _ _ _ three.1 in
      record { sizes = stands _ words first.0; good = not-false _ three.0; mine = leb-false _ _ four.0 }

  pub accepted_fine : Accepted board me words → process_check board me words ≡ Ok tt
  unfolding process_check
  accepted_fine h = rw (stands_fine _ words h.sizes, h.good, lt-leb board.settings.n me h.mine)

  -- a step: .. and the process is in a call
  pub step_accepted : step_check board me words ≡ Ok tt → Accepted board me words × (is_idle (process_at board me).place ≡ false)
  unfolding step_check
  step_accepted e = let first = then_fine _ _ e in (accepted first.0, (refuse_fine _ _ _ first.1).0)

  pub step_fine : Accepted board me words → is_idle (process_at board me).place ≡ false → step_check board me words ≡ Ok tt
  unfolding step_check
  step_fine h busy = rw (accepted_fine h, busy)

-- a begin: .. and the process is idle, its variable one of the board's, the sequence and the values right
pub record Beginning (s : Settings) (p : Process) (call : Call) (values : List ℕ) : Type 0 where
  pub variable : variable_of call < s.t
  pub idle : is_idle p.place ≡ true
  pub sequence : lacks_sequence call p.opened ≡ false
  pub given : values_right s call values ≡ true

module _ (board : Board) (me : ℕ) (call : Call) (values words : List ℕ) where
  pub begin_accepted : begin_check board me call values words ≡ Ok tt
      → Accepted board me words × Beginning board.settings (process_at board me) call values
  unfolding begin_check call_check
  begin_accepted e =
      let first = then_fine _ _ e in
      let five = refuse_fine _ _ _ first.1 in
      let six = refuse_fine _ _ _ five.1 in
      let seven = refuse_fine _ _ _ six.1 in
      let eight = refuse_fine _ _ _ seven.1 in (
        accepted board me words first.0,
        record { variable = leb-false _ _ five.0; idle = not-false _ six.0; sequence = seven.0; given = not-false _ eight.0 },
      )

  pub begin_fine : Accepted board me words → Beginning board.settings (process_at board me) call values
      → begin_check board me call values words ≡ Ok tt
  unfolding begin_check call_check
  begin_fine h k =
      rw (accepted_fine board me words h, lt-leb board.settings.t (variable_of call) k.variable, k.idle, k.sequence, k.given)
