-- A call's first place, and the step that a process takes from each place.
use Rattle.std.specs.Prelude.{List, ℕ}
use Rattle.rules.specs.Figure4.{Step, load_reads_word, validate_reads_word, store_swaps_word}
use Rattle.rules.specs.Figure6.{load_reads_header, validate_reads_header, store_reads_header, store_announces, store_swaps_header, reads_segment, reads_announced, swaps_segment, reads_segment_again, reads_header}
use Rattle.rules.specs.Processes.{refusing}
use Rattle.rules.specs.Types.{Call, Load, Validate, Store, Kind, One, Many, Place, Idle, LoadReadsWord, ValidateReadsWord, StoreSwapsWord, LoadReadsHeader, ValidateReadsHeader, StoreReadsHeader, StoreAnnounces, StoreSwapsHeader, ReadsSegment, ReadsAnnounced, SwapsSegment, ReadsSegmentAgain, ReadsHeader, Process, Settings, ProcessIdle}

abbrev pub first_place : Kind → Call → Place
first_place One (Load x) = LoadReadsWord x
first_place One (Validate x) = ValidateReadsWord x
first_place One (Store x) = StoreSwapsWord x
first_place Many (Load x) = LoadReadsHeader x
first_place Many (Validate x) = ValidateReadsHeader x
first_place Many (Store x) = StoreReadsHeader x

-- beginning a call touches no shared word; the values given lie in the process
abbrev pub beginning : Settings → Call → List ℕ → Process → Process
beginning s call values p =
    record { place = first_place s.kind call; opened = p.opened; keep = p.keep; values = values; gathered = p.gathered }

-- me is the process's own number; an idle process takes no step
abbrev pub step_from : Place → Settings → Process → ℕ → List ℕ → Step
step_from Idle s p me words = (refusing p ProcessIdle, words)
step_from (LoadReadsWord x) s p me words = load_reads_word s p x words
step_from (ValidateReadsWord x) s p me words = validate_reads_word s p x words
step_from (StoreSwapsWord x) s p me words = store_swaps_word s p x words
step_from (LoadReadsHeader x) s p me words = load_reads_header s p x words
step_from (ValidateReadsHeader x) s p me words = validate_reads_header s p x words
step_from (StoreReadsHeader x) s p me words = store_reads_header s p x words
step_from (StoreAnnounces x header i) s p me words = store_announces s p me x header i words
step_from (StoreSwapsHeader x header) s p me words = store_swaps_header s p me x header words
step_from (ReadsSegment c) s p me words = reads_segment s p c words
step_from (ReadsAnnounced c read) s p me words = reads_announced s p c read words
step_from (SwapsSegment c read announced) s p me words = swaps_segment s p c read announced words
step_from (ReadsSegmentAgain c) s p me words = reads_segment_again s p c words
step_from (ReadsHeader c value) s p me words = reads_header s p c value words

unfoldable pub process_step : Settings → Process → ℕ → List ℕ → Step
process_step s p me words = step_from p.place s p me words
