-- At the entry points: what a begin and a step leave alone, accepted or refused, and what an accepted step makes of its own
-- process. Assumes nothing.
use mathlib.Core.Path.{◌≡◌, refl, sym, ap, ◌∙◌}
use mathlib.Core.List.{List}
use Prim.Native.Nat.{ℕ, ◌≤◌, ◌<◌}
use native.Mathlib.Omega.{arith}
use lib.ListN.{length, get_or}
use lib.Seq.{get_or-set_same, get_or-set_other}
use Rattle.rules.specs.Entry.{begin_rule, begin_by, step_rule, step_by}
use Rattle.rules.specs.Processes.{is_open, nobody, process_at}
use Rattle.rules.specs.Refusals.{begin_check, step_check}
use Rattle.rules.specs.Sizes.{word_of, header_of, segment_of, announced_of, words_used}
use Rattle.rules.specs.Steps.{process_step}
use Rattle.rules.specs.Types.{Reply, Board, Call, Ok, Err, One, Many, Place, Process}
use Rattle.rules.specs.Refusals.{Check}
use Rattle.rules.proofs.Refusals.Checked.{Accepted, step_accepted}
use Rattle.rules.proofs.Changes.Frame.{framed}
use Rattle.rules.proofs.Changes.Places.{variable_at, open_after}
use Rattle.rules.proofs.GoodForm.Held.{at_place}
use Rattle.rules.proofs.GoodForm.Keeps.{process_fits_lem}
use Rattle.rules.proofs.Sizes.Sized.{sized}
use Rattle.rules.proofs.Changes.Reach.{Where, place_writes, writes_used, writes_no_word, writes_no_header, writes_no_segment, writes_no_row}

-- neither a begin nor a step changes another process, or the settings
module _ (board : Board) (me : ℕ) (words : List ℕ) where
  pub begin_no_other : (call : Call) (values : List ℕ) (i : ℕ) → (i ≡ me → ⊥)
      → process_at (begin_rule board me call values words).after i ≡ process_at board i
  unfolding begin_rule
  begin_no_other call values i ne = go (begin_check board me call values words)
    where
      go : (c : Check) → process_at (begin_by c board me call values).after i ≡ process_at board i
      go (Ok done) = get_or-set_other board.processes me i _ nobody ne
      go (Err r) = refl

  pub step_no_other : (i : ℕ) → (i ≡ me → ⊥) → process_at (step_rule board me words).0.after i ≡ process_at board i
  unfolding step_rule
  step_no_other i ne = go (step_check board me words)
    where
      go : (c : Check) → process_at (step_by c board me words).0.after i ≡ process_at board i
      go (Ok done) = get_or-set_other board.processes me i _ nobody ne
      go (Err r) = refl

  pub begin_settings : (call : Call) (values : List ℕ) → (begin_rule board me call values words).after.settings ≡ board.settings
  unfolding begin_rule
  begin_settings call values = go (begin_check board me call values words)
    where
      go : (c : Check) → (begin_by c board me call values).after.settings ≡ board.settings
      go (Ok done) = refl
      go (Err r) = refl

  pub step_settings : (step_rule board me words).0.after.settings ≡ board.settings
  unfolding step_rule
  step_settings = go (step_check board me words)
    where
      go : (c : Check) → (step_by c board me words).0.after.settings ≡ board.settings
      go (Ok done) = refl
      go (Err r) = refl

  -- a step leaves every word but the one that its place names
  pub step_rest : (a : ℕ) → (Accepted board me words → Where board.settings me (process_at board me).place a → ⊥)
      → get_or (step_rule board me words).1 a 0 ≡ get_or words a 0
  unfolding step_rule process_step
  step_rest a ne = go (step_check board me words) refl
    where
      go : (c : Check) → step_check board me words ≡ c → get_or (step_by c board me words).1 a 0 ≡ get_or words a 0
      go (Ok done) e =
          let both = step_accepted board me words e in
          let fits = process_fits_lem board words both.0.good me both.0.mine in
          let place = at_place _ _ fits (process_at board me).place refl in
          (framed (process_at board me).place board.settings (process_at board me) me words both.1).touched.rest a
          (λ w. ne both.0 (place_writes board.settings (process_at board me).opened me _ a place w))
      go (Err r) e = refl

  pub step_length : length (step_rule board me words).1 ≡ length words
  unfolding step_rule process_step
  step_length = go (step_check board me words) refl
    where
      go : (c : Check) → step_check board me words ≡ c → length (step_by c board me words).1 ≡ length words
      go (Ok done) e =
          (framed (process_at board me).place board.settings (process_at board me) me words (step_accepted board me words e).1).touched.lent
      go (Err r) e = refl

  -- words past those used
  pub step_past : (a : ℕ) → words_used board.settings ≤ a → get_or (step_rule board me words).1 a 0 ≡ get_or words a 0
  step_past a h = step_rest a (λ ok w. absurd (past ok (writes_used board.settings (sized _ ok.sizes.settings) me ok.mine _ a w)))
    where
      past : Accepted board me words → a < words_used board.settings → ⊥
      past ok l = omega arith

  -- the words of a variable that is not the step's, and the announce row of another process
  pub step_word : (y : ℕ) → (y ≡ variable_at (process_at board me).place → ⊥) → board.settings.kind ≡ One
      → word_of y (step_rule board me words).1 ≡ word_of y words
  step_word y ne one = step_rest _ (λ ok. writes_no_word board.settings me _ y ne one)

  pub step_header : (y : ℕ) → y < board.settings.t → (y ≡ variable_at (process_at board me).place → ⊥)
      → board.settings.kind ≡ Many
      → header_of board.settings y (step_rule board me words).1 ≡ header_of board.settings y words
  step_header y hy ne many = step_rest _ (λ ok. writes_no_header board.settings me _ y hy ne many)

  pub step_segment : (y j : ℕ) → y < board.settings.t → j < board.settings.w
      → (y ≡ variable_at (process_at board me).place → ⊥) → board.settings.kind ≡ Many
      → segment_of board.settings y j (step_rule board me words).1 ≡ segment_of board.settings y j words
  step_segment y j hy hj ne many = step_rest _ (λ ok. writes_no_segment board.settings me _ y j hy hj ne many)

  pub step_row : (q j : ℕ) → j < board.settings.w → (q ≡ me → ⊥) → board.settings.kind ≡ Many
      → announced_of board.settings q j (step_rule board me words).1 ≡ announced_of board.settings q j words
  step_row q j hj ne many = step_rest _ (λ ok. writes_no_row board.settings me _ q j hj ne many)

-- what an accepted step makes of its own process, on a board that holds it
module _ (board : Board) (me : ℕ) (words : List ℕ) (there : me < length board.processes) (fine : step_check board me words ≡ Ok tt) where
  pub step_own : process_at (step_rule board me words).0.after me
      ≡ (process_step board.settings (process_at board me) me words).0.after
  unfolding step_rule
  step_own =
      ap (λ (c : Check). process_at (step_by c board me words).0.after me) fine ∙ get_or-set_same board.processes me _ nobody there

  pub step_answer : (step_rule board me words).0.answer ≡ (process_step board.settings (process_at board me) me words).0.answer
  unfolding step_rule
  step_answer = ap (λ (c : Check). (step_by c board me words).0.answer) fine

  -- a load opens its sequence at its first step, a store closes it at its answer, every other step leaves it
  pub step_sequence :
      let l : Place = (process_at board me).place in
      is_open (process_at (step_rule board me words).0.after me).opened (variable_at l)
      ≡ open_after l (step_rule board me words).0.answer (is_open (process_at board me).opened (variable_at l))
  unfolding process_step
  step_sequence =
      let l : Place = (process_at board me).place in
      let frame = framed l board.settings (process_at board me) me words (step_accepted board me words fine).1 in
      ap (λ (p : Process). is_open p.opened (variable_at l)) step_own
      ∙ frame.own.sequence
      ∙ ap (λ (a : Reply). open_after l a (is_open (process_at board me).opened (variable_at l))) (sym step_answer)

  -- and it leaves the sequences on all other variables
  pub step_sequences : (y : ℕ) → (y ≡ variable_at (process_at board me).place → ⊥)
      → is_open (process_at (step_rule board me words).0.after me).opened y ≡ is_open (process_at board me).opened y
  unfolding process_step
  step_sequences y ne =
      let l : Place = (process_at board me).place in
      let frame = framed l board.settings (process_at board me) me words (step_accepted board me words fine).1 in
      ap (λ (p : Process). is_open p.opened y) step_own ∙ frame.own.sequences y ne
