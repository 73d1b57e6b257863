-- What a begin makes of one process, of a board that can be served. What a step makes of it is the rules' process_step.
use Rattle.std.specs.Prelude.{List, ℕ, Ok, Err}
use Rattle.rules.specs.Processes.{refusing}
use Rattle.rules.specs.Refusals.{Check, call_check}
use Rattle.rules.specs.Steps.{beginning}
use Rattle.rules.specs.declared.Answer.TheVariants.{Begun}
use Rattle.rules.specs.declared.Answered.{Answered}
use Rattle.rules.specs.declared.Call.{Call}
use Rattle.rules.specs.declared.Process.{Process}
use Rattle.rules.specs.declared.Settings.{Settings}

-- a refused process is left as found
abbrev pub begin_process_by : Check → Settings → Process → Call → List ℕ → Answered Process
begin_process_by (Ok done) s p call values = record { after = beginning s call values p; answer = Ok Begun }
begin_process_by (Err refusal) s p call values = refusing p refusal

-- 5 to 8, and the call's beginning
unfoldable pub begin_process_rule : Settings → Process → Call → List ℕ → Answered Process
begin_process_rule s p call values = begin_process_by (call_check s p call values) s p call values
