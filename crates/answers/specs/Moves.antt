-- A schedule record answered on the one process that it moves, where the board is in good form: the process after it, the
-- answer, and the row.
use Rattle.std.specs.Prelude.{ℕ, cond, List, ltb, Option, Some, None, Result, Ok, Err}
use Rattle.word.specs.declared.Refusal.{Refusal}
use Rattle.word.specs.declared.Refusal.TheVariants.{NoSuchProcess}
use Rattle.rules.specs.Figure4.{Step as OneStep}
use Rattle.rules.specs.Processes.{open_count, refusing}
use Rattle.rules.specs.Steps.{process_step}
use Rattle.rules.specs.declared.Answered.{Answered}
use Rattle.rules.specs.declared.Call.{Call}
use Rattle.rules.specs.declared.Process.{Process}
use Rattle.rules.specs.declared.Settings.{Settings}
use Rattle.calls.specs.OneProcess.{begin_process_rule}
use Rattle.record.specs.declared.Act.{Act}
use Rattle.record.specs.declared.Act.TheVariants.{Step as TakesStep}
use Rattle.record.specs.declared.entries.Entry.{Entry}
use Rattle.record.specs.declared.entries.Entry.TheVariants.{Begin, Step}
use Rattle.printout.specs.declared.Row.{Row}
use Rattle.printout.specs.declared.Who.TheVariants.{Process as ProcessAt}
use Rattle.answers.specs.Run.{call_act, nobodys_row}

-- the process that a record moves; the first, which stays as it is, where it moves none
abbrev pub slot_in : ℕ → ℕ → ℕ
slot_in me n = cond (ltb me n) me 0

abbrev pub slot_of : Result Entry Refusal → ℕ → ℕ
slot_of (Ok (Begin me call values)) n = slot_in me n
slot_of (Ok (Step me)) n = slot_in me n
slot_of (Err why) n = 0

abbrev pub begins : Settings → ℕ → Call → List ℕ → Process → Answered Process
begins s me call values p = cond (ltb me s.n) (begin_process_rule s p call values) (refusing p NoSuchProcess)

abbrev pub steps : Settings → ℕ → Process → List ℕ → OneStep
steps s me p words = cond (ltb me s.n) (process_step s p me words) (refusing p NoSuchProcess, words)

abbrev pub move_of : Settings → Result Entry Refusal → Process → List ℕ → OneStep
move_of s (Ok (Begin me call values)) p words = (begins s me call values p, words)
move_of s (Ok (Step me)) p words = steps s me p words
move_of s (Err why) p words = (refusing p why, words)

-- after 4 open is blank
abbrev pub open_in : Settings → ℕ → Process → Option ℕ
open_in s me p = cond (ltb me s.n) (Some (open_count p.opened s.t)) None

abbrev pub process_row : ℕ → Settings → ℕ → Act → Answered Process → Row
process_row number s me act m =
    record { number = number; who = ProcessAt me act; answer = m.answer; «open» = open_in s me m.after; w = s.w }

abbrev pub row_by : ℕ → Settings → Result Entry Refusal → Answered Process → Row
row_by number s (Ok (Begin me call values)) m = process_row number s me (call_act call) m
row_by number s (Ok (Step me)) m = process_row number s me TakesStep m
row_by number s (Err why) m = nobodys_row number why
