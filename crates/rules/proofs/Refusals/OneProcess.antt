-- On a board that passes 1 to 4, a step is that of its one process: an idle one takes none, is refused 9 and left as found.
-- Assumes nothing.
use mathlib.Core.Path.{◌≡◌, refl, sym, ap, ◌∙◌}
use mathlib.Core.Bool.{Bool, true, false}
use mathlib.Core.List.{List}
use Prim.Native.Nat.{ℕ}
use lib.Seq.{set-get_or}
use Rattle.rules.specs.Entry.{step_by, step_rule, stepped}
use Rattle.rules.specs.Figure4.{Step}
use Rattle.rules.specs.Processes.{is_idle, nobody, process_at, put_process, refusing}
use Rattle.rules.specs.Refusals.{refuse_if, process_check, step_check}
use Rattle.rules.specs.Steps.{step_from, process_step}
use Rattle.rules.specs.declared.Board.{Board}
use Rattle.std.specs.Prelude.{Ok}
use Rattle.rules.specs.declared.Place.{Place}
use Rattle.rules.specs.declared.Place.TheVariants.{Idle, LoadReadsWord, ValidateReadsWord, StoreSwapsWord, LoadReadsHeader, ValidateReadsHeader, StoreReadsHeader, StoreAnnounces, StoreSwapsHeader, ReadsSegment, ReadsAnnounced, SwapsSegment, ReadsSegmentAgain, ReadsHeader}
use Rattle.rules.specs.declared.Process.{Process}
use Rattle.rules.specs.declared.Settings.{Settings}
use Rattle.word.specs.declared.Refusal.TheVariants.{ProcessIdle}

idle_place : (place : Place) → is_idle place ≡ true → place ≡ Idle
idle_place Idle e = refl
idle_place (LoadReadsWord x) e = cc
idle_place (ValidateReadsWord x) e = cc
idle_place (StoreSwapsWord x) e = cc
idle_place (LoadReadsHeader x) e = cc
idle_place (ValidateReadsHeader x) e = cc
idle_place (StoreReadsHeader x) e = cc
idle_place (StoreAnnounces x header i) e = cc
idle_place (StoreSwapsHeader x header) e = cc
idle_place (ReadsSegment c) e = cc
idle_place (ReadsAnnounced c read) e = cc
idle_place (SwapsSegment c read announced) e = cc
idle_place (ReadsSegmentAgain c) e = cc
idle_place (ReadsHeader c value) e = cc

-- an idle process takes no step, and is left as found
pub idle_step : (s : Settings) (p : Process) (me : ℕ) (words : List ℕ) → is_idle p.place ≡ true
    → process_step s p me words ≡ (refusing p ProcessIdle, words)
unfolding process_step
idle_step s p me words e = ap (λ (l : Place). step_from l s p me words) (idle_place p.place e)

-- a process that was not moved, put back, changes nothing
pub same_board : (board : Board) (me : ℕ) → put_process board me (process_at board me) ≡ board
same_board board me =
    ap (λ (l : List Process). record { settings = board.settings; processes = l }) (set-get_or board.processes me nobody)

module _ (board : Board) (me : ℕ) (words : List ℕ) where
  abbrev own_step : Step
  own_step = process_step board.settings (process_at board me) me words

  pub step_served : process_check board me words ≡ Ok tt → step_rule board me words ≡ stepped board me own_step
  unfolding step_rule step_check
  step_served e = rw e (by (is_idle (process_at board me).place) refl)
    where
      by : (t : Bool) → is_idle (process_at board me).place ≡ t
          → step_by (refuse_if t ProcessIdle (Ok tt)) board me words ≡ stepped board me own_step
      by true idle =
          ap (λ (b : Board). (refusing b ProcessIdle, words)) (sym (same_board board me))
          ∙ ap (stepped board me) (sym (idle_step board.settings (process_at board me) me words idle))
      by false busy = refl
