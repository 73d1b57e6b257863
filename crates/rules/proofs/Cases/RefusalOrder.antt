-- The order of the refusals, by computation: for each two that follow one another, an input to which both apply gets the
-- first. And what 8 is given for. Assumes nothing.
use mathlib.Core.Path.{◌≡◌, refl}
use mathlib.Core.List.{List, [], ◌∷◌}
use Prim.Native.Nat.{ℕ}
use Rattle.word.specs.Packing.{pack_rule}
use Rattle.rules.specs.Entry.{fresh_process, fresh_board}
use Rattle.rules.specs.Processes.{at, opening, no_values, put_process}
use Rattle.rules.specs.Refusals.{sizes_check, process_check, begin_check, step_check}
use Rattle.rules.specs.Schedules.{settings}
use Rattle.rules.specs.Types.{SettingOutsideSizes, MemoryTooShort, NotInGoodForm, NoSuchProcess, NoSuchVariable, CallInProgress, NoOpenSequence, ValueTooGreat, ProcessIdle, Board, Load, Validate, Store, Ok, Err, One, LoadReadsWord, LoadReadsHeader}
use Rattle.rules.proofs.Cases.Computing.{schedule}

-- one word is lent, and used, by kind one with one variable
abbrev lent : List ℕ
lent = 0 ∷ []

-- N 0 is outside the sizes
abbrev unsized : Board
unsized = fresh_board (settings 0 One 1 48 1)

abbrev idle : Board
idle = fresh_board (settings 2 One 1 48 1)

-- process 0 is in a load
abbrev loading : Board
loading = put_process idle 0 (at (LoadReadsWord 0) fresh_process)

-- process 0 stands at a place of the other kind
abbrev formless : Board
formless = put_process idle 0 (at (LoadReadsHeader 0) fresh_process)

-- the sequence on variable 0 is open
abbrev opened : Board
opened = put_process idle 0 (opening 0 fresh_process)

abbrev wide : List ℕ
wide = 65536 ∷ 0 ∷ 0 ∷ 0 ∷ []

abbrev second : List ℕ
second = 0 ∷ 1 ∷ 0 ∷ 0 ∷ []

pub record Order : Type 0 where
  pub set_up_1_2 : sizes_check (settings 0 One 1 48 1) 0 ≡ Err SettingOutsideSizes
  pub begin_1_2 : begin_check unsized 0 (Load 0) no_values [] ≡ Err SettingOutsideSizes
  pub begin_2_3 : begin_check formless 0 (Load 0) no_values [] ≡ Err MemoryTooShort
  pub begin_3_4 : begin_check formless 7 (Load 0) no_values lent ≡ Err NotInGoodForm
  pub begin_4_5 : begin_check idle 7 (Load 9) no_values lent ≡ Err NoSuchProcess
  pub begin_5_6 : begin_check loading 0 (Load 9) no_values lent ≡ Err NoSuchVariable
  pub begin_6_7 : begin_check loading 0 (Validate 0) no_values lent ≡ Err CallInProgress
  pub begin_7_8 : begin_check idle 0 (Store 0) wide lent ≡ Err NoOpenSequence
  pub step_1_2 : step_check unsized 0 [] ≡ Err SettingOutsideSizes
  pub step_2_3 : step_check formless 0 [] ≡ Err MemoryTooShort
  pub step_3_4 : step_check formless 7 lent ≡ Err NotInGoodForm
  pub step_4_9 : step_check idle 7 lent ≡ Err NoSuchProcess
  pub count_1_2 : process_check unsized 0 [] ≡ Err SettingOutsideSizes
  pub count_2_3 : process_check formless 0 [] ≡ Err MemoryTooShort
  pub count_3_4 : process_check formless 7 lent ≡ Err NotInGoodForm
  pub packing_1_8 : pack_rule 3 8 0 ≡ Err SettingOutsideSizes

-- a value too great, one from place W on, and any with a load or a validate; and that the last of each list stands
pub record Values : Type 0 where
  pub too_great : begin_check opened 0 (Store 0) wide lent ≡ Err ValueTooGreat
  pub from_w_on : begin_check opened 0 (Store 0) second lent ≡ Err ValueTooGreat
  pub with_load : begin_check opened 0 (Load 0) second lent ≡ Err ValueTooGreat
  pub with_validate : begin_check opened 0 (Validate 0) second lent ≡ Err ValueTooGreat
  pub stands : begin_check opened 0 (Store 0) (65535 ∷ 0 ∷ 0 ∷ 0 ∷ []) lent ≡ Ok tt
  pub idle_step : step_check opened 0 lent ≡ Err ProcessIdle

pub in_order : Order
unfolding schedule
in_order =
    record {
      set_up_1_2 = refl;
      begin_1_2 = refl;
      begin_2_3 = refl;
      begin_3_4 = refl;
      begin_4_5 = refl;
      begin_5_6 = refl;
      begin_6_7 = refl;
      begin_7_8 = refl;
      step_1_2 = refl;
      step_2_3 = refl;
      step_3_4 = refl;
      step_4_9 = refl;
      count_1_2 = refl;
      count_2_3 = refl;
      count_3_4 = refl;
      packing_1_8 = refl;
    }

pub values_refused : Values
unfolding schedule
values_refused = record { too_great = refl; from_w_on = refl; with_load = refl; with_validate = refl; stands = refl; idle_step = refl }
