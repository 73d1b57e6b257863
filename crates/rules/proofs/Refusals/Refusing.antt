-- A refusal answers its number and leaves board and words as found, and is given exactly where the check finds it: an
-- accepted begin or step never answers a refusal. Assumes nothing.
use mathlib.Core.Path.{◌≡◌, refl, sym, ap, ◌∙◌}
use mathlib.Core.Bool.{true}
use mathlib.Core.List.{List}
use Prim.Native.Nat.{ℕ}
use lib.ListN.{length}
use Rattle.rules.specs.Entry.{blank_board, set_up_rule, set_up_by, begin_rule, begin_by, step_rule, step_by, open_count_rule, open_count_by}
use Rattle.rules.specs.Processes.{refusing}
use Rattle.rules.specs.OwnSteps.{taken}
use Rattle.rules.specs.Processes.{process_at}
use Rattle.rules.specs.Refusals.{sizes_check, process_check, begin_check, step_check}
use Rattle.rules.specs.Sizes.{settings_fit}
use Rattle.rules.specs.Steps.{process_step}
use Rattle.rules.specs.Types.{Reply, Begun, Board, Call, Settings, Ok, Err, Refusal, SettingOutsideSizes}
use Rattle.rules.specs.Refusals.{Check}
use Rattle.rules.proofs.Refusals.Checked.{step_accepted}
use Rattle.rules.proofs.Changes.Frame.{framed}
use Rattle.rules.proofs.Tests.{never}

-- a refused set-up gives its number, and the words as found
pub set_up_refused_lem : (s : Settings) (words : List ℕ) (r : Refusal) → sizes_check s (length words) ≡ Err r
    → set_up_rule s words ≡ (Err r, words)
unfolding set_up_rule
set_up_refused_lem s words r e = ap (λ (c : Check). set_up_by c s words) e

pub begin_refused : (board : Board) (me : ℕ) (call : Call) (values words : List ℕ) (r : Refusal)
    → begin_check board me call values words ≡ Err r → begin_rule board me call values words ≡ refusing board r
unfolding begin_rule
begin_refused board me call values words r e = ap (λ (c : Check). begin_by c board me call values) e

pub step_refused : (board : Board) (me : ℕ) (words : List ℕ) (r : Refusal)
    → step_check board me words ≡ Err r → step_rule board me words ≡ (refusing board r, words)
unfolding step_rule
step_refused board me words r e = ap (λ (c : Check). step_by c board me words) e

pub count_refused : (board : Board) (me : ℕ) (words : List ℕ) (r : Refusal)
    → process_check board me words ≡ Err r → open_count_rule board me words ≡ Err r
unfolding open_count_rule
count_refused board me words r e = ap (λ (c : Check). open_count_by c board me) e

-- where 1 to 4 find a refusal, it is the answer of a begin and of a step
module _ (board : Board) (me : ℕ) (words : List ℕ) (r : Refusal) (e : process_check board me words ≡ Err r) where
  pub begin_refused_first : (call : Call) (values : List ℕ) → begin_rule board me call values words ≡ refusing board r
  unfolding begin_check
  begin_refused_first call values = begin_refused board me call values words r (rw e)

  pub step_refused_first : step_rule board me words ≡ (refusing board r, words)
  unfolding step_check
  step_refused_first = step_refused board me words r (rw e)

-- an answer is a refusal exactly where the check is that refusal
refused_only : {A : Type 0} (r : Refusal) (answer : Reply) → taken answer ≡ true → answer ≡ Err r → A
refused_only r answer accepted e = never (sym accepted ∙ ap taken e)

pub set_up_refuses : (s : Settings) (words : List ℕ) (r : Refusal)
    → (set_up_rule s words).0 ≡ Err r → sizes_check s (length words) ≡ Err r
unfolding set_up_rule
set_up_refuses s words r = go (sizes_check s (length words))
  where
    go : (c : Check) → (set_up_by c s words).0 ≡ Err r → c ≡ Err r
    go (Ok done) e = cc
    go (Err q) e = cc

pub begin_refuses : (board : Board) (me : ℕ) (call : Call) (values words : List ℕ) (r : Refusal)
    → (begin_rule board me call values words).answer ≡ Err r → begin_check board me call values words ≡ Err r
unfolding begin_rule
begin_refuses board me call values words r = go (begin_check board me call values words)
  where
    go : (c : Check) → (begin_by c board me call values).answer ≡ Err r → c ≡ Err r
    go (Ok done) e = refused_only r (Ok Begun) refl e
    go (Err q) e = cc

pub step_refuses : (board : Board) (me : ℕ) (words : List ℕ) (r : Refusal)
    → (step_rule board me words).0.answer ≡ Err r → step_check board me words ≡ Err r
unfolding step_rule process_step
step_refuses board me words r = go (step_check board me words) refl
  where
    go : (c : Check) → step_check board me words ≡ c → (step_by c board me words).0.answer ≡ Err r → c ≡ Err r
    go (Ok done) f e =
        let busy = (step_accepted board me words f).1 in
        let frame = framed (process_at board me).place board.settings (process_at board me) me words busy in
        refused_only r _ frame.own.answers e
    go (Err q) f e = cc

pub count_refuses : (board : Board) (me : ℕ) (words : List ℕ) (r : Refusal)
    → open_count_rule board me words ≡ Err r → process_check board me words ≡ Err r
unfolding open_count_rule
count_refuses board me words r = go (process_check board me words)
  where
    go : (c : Check) → open_count_by c board me ≡ Err r → c ≡ Err r
    go (Ok done) e = cc
    go (Err q) e = cc

-- the blank board is refused 1 by every entry point
module _ (me : ℕ) (words : List ℕ) where
  pub blank_check : process_check blank_board me words ≡ Err SettingOutsideSizes
  unfolding process_check sizes_check settings_fit
  blank_check = refl

  pub blank_begin : (call : Call) (values : List ℕ)
      → begin_rule blank_board me call values words ≡ refusing blank_board SettingOutsideSizes
  blank_begin call values = begin_refused_first blank_board me words SettingOutsideSizes blank_check call values

  pub blank_step : step_rule blank_board me words ≡ (refusing blank_board SettingOutsideSizes, words)
  blank_step = step_refused_first blank_board me words SettingOutsideSizes blank_check

  pub blank_count : open_count_rule blank_board me words ≡ Err SettingOutsideSizes
  blank_count = count_refused blank_board me words SettingOutsideSizes blank_check
