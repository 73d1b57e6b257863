-- Document 01, "Schedule and printout": what each record prints, and the run after it; and the printout of a whole input.
use Rattle.std.specs.Prelude.{ℕ, ◌+◌, cond, List, [], ◌∷◌, ◌++◌, ltb, replicate, None, Result, Ok, Err}
use Rattle.std.specs.Result.{result_ok}
use Rattle.word.specs.declared.Refusal.{Refusal}
use Rattle.word.specs.declared.Refusal.TheVariants.{TooManyRecords}
use Rattle.rules.specs.Entry.{set_up_rule}
use Rattle.rules.specs.Runs.{State, Event, begin, step, process_of, after, event_row}
use Rattle.rules.specs.declared.Board.{Board}
use Rattle.rules.specs.declared.Call.{Call}
use Rattle.rules.specs.declared.Call.TheVariants.{Load, Validate, Store}
use Rattle.rules.specs.declared.Settings.{Settings}
use Rattle.record.specs.Setup.{settings_of}
use Rattle.record.specs.Entries.{schedule_of}
use Rattle.record.specs.declared.Act.{Act}
use Rattle.record.specs.declared.Act.TheVariants.{Load as LL, Validate as VL, Store as SC, Step as TakesStep}
use Rattle.record.specs.declared.entries.Entry.{Entry}
use Rattle.record.specs.declared.entries.Entry.TheVariants.{Begin, Step}
use Rattle.printout.specs.Row.{heading, row_of}
use Rattle.printout.specs.declared.Row.{Row}
use Rattle.printout.specs.declared.Who.{Who}
use Rattle.printout.specs.declared.Who.TheVariants.{Nobody, SetUp, Process}
use Rattle.answers.specs.Records.{records_of}
use Rattle.answers.specs.declared.Stage.{Stage}
use Rattle.answers.specs.declared.Stage.TheVariants.{Waiting, Running, Over}

-- a run waits for its set-up, runs on its board, or is over; it has the shared words, and a count of the schedule records so far
pub record Run : Type 0 where
  pub stage : Stage
  pub words : List ℕ
  pub count : ℕ

-- what a record prints, and the run after it
pub record Told : Type 0 where
  pub printed : List ℕ
  pub run : Run

-- 144 words are lent to a run
abbrev pub beginning_run : Run
beginning_run = record { stage = Waiting; words = replicate 144 0; count = 0 }

abbrev pub ended : Run → List ℕ → Run
ended run words = record { stage = Over; words = words; count = run.count }

-- a refusal that moved no process
abbrev pub refused_row : ℕ → Who → Refusal → Row
refused_row number who why = record { number = number; who = who; answer = Err why; «open» = None; w = 0 }

-- a refused set-up prints `0,,setup,refused,,n,,,` with its number n and ends the run
abbrev pub set_up_row : Refusal → Row
set_up_row why = refused_row 0 SetUp why

abbrev pub set_up_refused : Run → List ℕ → Refusal → Told
set_up_refused run words why = record { printed = row_of (set_up_row why); run = ended run words }

-- an accepted set-up prints no row
abbrev pub by_set_up : Run → Result Board Refusal → List ℕ → Told
by_set_up run (Ok board) words =
    record { printed = []; run = record { stage = Running board; words = words; count = 0 } }
by_set_up run (Err why) words = set_up_refused run words why

abbrev pub by_settings : Run → Result Settings Refusal → Told
by_settings run (Ok s) = by_set_up run (set_up_rule s run.words).0 (set_up_rule s run.words).1
by_settings run (Err why) = set_up_refused run run.words why

unfoldable pub set_up_told : Run → List ℕ → Told
set_up_told run bytes = by_settings run (settings_of bytes)

-- the act of an event
abbrev pub call_act : Call → Act
call_act (Load x) = LL
call_act (Validate x) = VL
call_act (Store x) = SC

abbrev pub event_act : Event → Act
event_act (begin me call values) = call_act call
event_act (step me) = TakesStep

abbrev pub state_of : Board → Run → State
state_of board run = record { board = board; words = run.words }

-- a begin or a step: the process and the act, the answer, and the open count after the record; after 4 it is blank
unfoldable pub numbered_row : ℕ → Event → State → Row
numbered_row number event state =
    record {
      number = number;
      who = Process (process_of event) (event_act event);
      answer = (event_row event state).answer;
      «open» = result_ok (event_row event state).open';
      w = state.board.settings.w;
    }

unfoldable pub event_told : Board → Run → Event → Told
event_told board run event =
    record {
      printed = row_of (numbered_row (run.count + 1) event (state_of board run));
      run =
          record {
            stage = Running (after event (state_of board run)).board;
            words = (after event (state_of board run)).words;
            count = run.count + 1;
          };
    }

-- after 10, 11 and 12 process, act and open are blank
abbrev pub nobodys_row : ℕ → Refusal → Row
nobodys_row number why = refused_row number Nobody why

-- a record refused 10 or 11 has its number, and the run goes on
abbrev pub refused_told : Board → Run → Refusal → Told
refused_told board run why =
    record {
      printed = row_of (nobodys_row (run.count + 1) why);
      run = record { stage = Running board; words = run.words; count = run.count + 1 };
    }

abbrev pub by_entry : Board → Run → Result Entry Refusal → Told
by_entry board run (Ok (Begin process call values)) = event_told board run (begin process call values)
by_entry board run (Ok (Step process)) = event_told board run (step process)
by_entry board run (Err why) = refused_told board run why

-- 12: a schedule record after the 1,000,000th ends the run
abbrev pub most_records : ℕ
most_records = 1000000

abbrev pub too_many_told : Run → Told
too_many_told run = record { printed = row_of (nobodys_row (most_records + 1) TooManyRecords); run = ended run run.words }

unfoldable pub schedule_told : Board → Run → List ℕ → Told
schedule_told board run bytes =
    cond (ltb run.count most_records)
    (by_entry board run (schedule_of bytes board.settings.w))
    (too_many_told run)

abbrev pub told_in : Stage → Run → List ℕ → Told
told_in Waiting run bytes = set_up_told run bytes
told_in (Running board) run bytes = schedule_told board run bytes
told_in Over run bytes = record { printed = []; run = run }

unfoldable pub record_told : Run → List ℕ → Told
record_told run bytes = told_in run.stage run bytes

-- the rows of the records that are still to come
unfoldable pub rows_of : Run → List (List ℕ) → List ℕ
rows_of run [] = []
rows_of run (bytes ∷ records) = (record_told run bytes).printed ++ rows_of (record_told run bytes).run records

-- the heading comes first in every run
unfoldable pub printout_of : List ℕ → List ℕ
printout_of input = heading ++ rows_of beginning_run (records_of input)
