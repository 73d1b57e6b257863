-- The entry rules: set-up, begin, step and open count, each over every input. A refusal answers its number and leaves
-- board and words as found.
use Rattle.std.specs.Prelude.{List, ◌++◌, ℕ, length, drop, replicate}
use Rattle.rules.specs.Figure4.{Step}
use Rattle.rules.specs.Processes.{no_values, open_count, refusing, process_at, put_process}
use Rattle.rules.specs.Refusals.{Check, sizes_check, process_check, begin_check, step_check}
use Rattle.rules.specs.Sizes.{words_used}
use Rattle.rules.specs.Steps.{beginning, process_step}
use Rattle.rules.specs.Types.{Begun, Answered, Board, Call, One, Idle, Process, Settings, Result, Ok, Err, Refusal}

-- a fresh board has every word and keep-word 0, every process idle and no sequence open
abbrev pub fresh_process : Process
fresh_process = record { place = Idle; opened = 0; keep = replicate 16 0; values = no_values; gathered = no_values }

abbrev pub fresh_board : Settings → Board
fresh_board s = record { settings = s; processes = replicate 16 fresh_process }

abbrev pub fresh_words : Settings → List ℕ → List ℕ
fresh_words s words = replicate (words_used s) 0 ++ drop (words_used s) words

-- a board of no size, which stands for none where a board must stand
abbrev pub blank_board : Board
blank_board = fresh_board (record { kind = One; n = 0; t = 0; w = 0; layout = record { bits = 0 } })

abbrev pub set_up_by : Check → Settings → List ℕ → Result Board Refusal × List ℕ
set_up_by (Ok done) s words = (Ok (fresh_board s), fresh_words s words)
set_up_by (Err refusal) s words = (Err refusal, words)

unfoldable pub set_up_rule : Settings → List ℕ → Result Board Refusal × List ℕ
set_up_rule s words = set_up_by (sizes_check s (length words)) s words

abbrev pub begin_by : Check → Board → ℕ → Call → List ℕ → Answered Board
begin_by (Ok done) board me call values =
    record {
      after = put_process board me (beginning board.settings call values (process_at board me));
      answer = Ok Begun;
    }
begin_by (Err refusal) board me call values = refusing board refusal

-- a begin reads the words for its checks and changes none
unfoldable pub begin_rule : Board → ℕ → Call → List ℕ → List ℕ → Answered Board
begin_rule board me call values words = begin_by (begin_check board me call values words) board me call values

-- a process that was moved is laid back into its board, with the answer; the others stay
abbrev pub laid_back : Board → ℕ → Answered Process → Answered Board
laid_back board me moved = record { after = put_process board me moved.after; answer = moved.answer }

abbrev pub stepped : Board → ℕ → Step → Answered Board × List ℕ
stepped board me step = (laid_back board me step.0, step.1)

abbrev pub step_by : Check → Board → ℕ → List ℕ → Answered Board × List ℕ
step_by (Ok done) board me words = stepped board me (process_step board.settings (process_at board me) me words)
step_by (Err refusal) board me words = (refusing board refusal, words)

unfoldable pub step_rule : Board → ℕ → List ℕ → Answered Board × List ℕ
step_rule board me words = step_by (step_check board me words) board me words

abbrev pub open_count_by : Check → Board → ℕ → Result ℕ Refusal
open_count_by (Ok done) board me = Ok (open_count (process_at board me).opened board.settings.t)
open_count_by (Err refusal) board me = Err refusal

unfoldable pub open_count_rule : Board → ℕ → List ℕ → Result ℕ Refusal
open_count_rule board me words = open_count_by (process_check board me words) board me
