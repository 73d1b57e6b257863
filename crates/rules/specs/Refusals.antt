-- Document 01's refusals, in the order in which each entry point checks them. A check gives the first that holds, or none.
use Rattle.std.specs.Result.{result_and}
use Rattle.std.specs.Prelude.{Bool, false, cond, not, ◌&&◌, ◌||◌, List, ℕ, leb, ltb, eqb, length, get_or}
use Rattle.rules.specs.GoodForm.{all, value_fits, in_good_form}
use Rattle.rules.specs.Processes.{is_idle, is_open, process_at}
use Rattle.rules.specs.Sizes.{settings_fit, words_used}
use Rattle.rules.specs.Types.{Board, Call, Load, Validate, Store, Result, Ok, Err, Process, Settings, Refusal, SettingOutsideSizes, MemoryTooShort, NotInGoodForm, NoSuchProcess, NoSuchVariable, CallInProgress, NoOpenSequence, ValueTooGreat, ProcessIdle}

abbrev pub Check : Type 0
Check = Result Unit Refusal

abbrev pub fine : Check
fine = Ok tt

abbrev pub refuse_if : Bool → Refusal → Check → Check
refuse_if test refusal rest = cond test (Err refusal) rest

-- 1, 2: what a set-up checks
unfoldable pub sizes_check : Settings → ℕ → Check
sizes_check s lent =
    refuse_if (not (settings_fit s)) SettingOutsideSizes
    (refuse_if (ltb lent (words_used s)) MemoryTooShort
    fine)

-- 1 to 4: what the open count checks, and a begin and a step before all else
unfoldable pub process_check : Board → ℕ → List ℕ → Check
process_check board me words =
    result_and (sizes_check board.settings (length words))
    (refuse_if (not (in_good_form board words)) NotInGoodForm
    (refuse_if (leb board.settings.n me) NoSuchProcess
    fine))

abbrev pub variable_of : Call → ℕ
variable_of (Load x) = x
variable_of (Validate x) = x
variable_of (Store x) = x

-- a validate or a store needs an open sequence
abbrev pub lacks_sequence : Call → ℕ → Bool
lacks_sequence (Load x) opened = false
lacks_sequence (Validate x) opened = not (is_open opened x)
lacks_sequence (Store x) opened = not (is_open opened x)

-- every value is 0
unfoldable pub all_blank : List ℕ → Bool
all_blank values = all 4 (λ i. eqb (get_or values i 0) 0)

-- every value is below 2^(64 - b), and is 0 from place W on
unfoldable pub storable : Settings → List ℕ → Bool
storable s values = all 4 (λ i. value_fits s (get_or values i 0) && (ltb i s.w || eqb (get_or values i 0) 0))

abbrev pub values_right : Settings → Call → List ℕ → Bool
values_right s (Load x) values = all_blank values
values_right s (Validate x) values = all_blank values
values_right s (Store x) values = storable s values

-- 5 to 8: what a begin checks of the process and the call
unfoldable pub call_check : Settings → Process → Call → List ℕ → Check
call_check s p call values =
    refuse_if (leb s.t (variable_of call)) NoSuchVariable
    (refuse_if (not (is_idle p.place)) CallInProgress
    (refuse_if (lacks_sequence call p.opened) NoOpenSequence
    (refuse_if (not (values_right s call values)) ValueTooGreat
    fine)))

-- a begin checks 1 to 8 in order
unfoldable pub begin_check : Board → ℕ → Call → List ℕ → List ℕ → Check
begin_check board me call values words =
    result_and (process_check board me words) (call_check board.settings (process_at board me) call values)

-- a step checks 1, 2, 3, 4, 9
unfoldable pub step_check : Board → ℕ → List ℕ → Check
step_check board me words =
    result_and (process_check board me words)
    (refuse_if (is_idle (process_at board me).place) ProcessIdle
    fine)
