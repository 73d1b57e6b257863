-- A process, changed in one thing; and what a step makes of it.
use Rattle.std.specs.Prelude.{Bool, true, false, cond, List, [], ◌∷◌, ℕ, zero, suc, ◌+◌, ◌-◌, ◌/◌, ◌%◌, ◌^◌, eqb, get_or, set}
use Rattle.rules.specs.Types.{Reply, Busy, Answered, Ok, Err, Refusal, Board, Place, Idle, LoadReadsWord, ValidateReadsWord, StoreSwapsWord, LoadReadsHeader, ValidateReadsHeader, StoreReadsHeader, StoreAnnounces, StoreSwapsHeader, ReadsSegment, ReadsAnnounced, SwapsSegment, ReadsSegmentAgain, ReadsHeader, Process}

abbrev pub is_idle : Place → Bool
is_idle Idle = true
is_idle (LoadReadsWord x) = false
is_idle (ValidateReadsWord x) = false
is_idle (StoreSwapsWord x) = false
is_idle (LoadReadsHeader x) = false
is_idle (ValidateReadsHeader x) = false
is_idle (StoreReadsHeader x) = false
is_idle (StoreAnnounces x header i) = false
is_idle (StoreSwapsHeader x header) = false
is_idle (ReadsSegment c) = false
is_idle (ReadsAnnounced c read) = false
is_idle (SwapsSegment c read announced) = false
is_idle (ReadsSegmentAgain c) = false
is_idle (ReadsHeader c value) = false

-- the sequence on variable x is open: bit x of the mask
abbrev pub is_open : ℕ → ℕ → Bool
is_open mask x = eqb (mask / 2 ^ x % 2) 1

unfoldable pub with_open : ℕ → ℕ → ℕ
with_open mask x = cond (is_open mask x) mask (mask + 2 ^ x)

unfoldable pub with_closed : ℕ → ℕ → ℕ
with_closed mask x = cond (is_open mask x) (mask - 2 ^ x) mask

-- the number of variables below t on which a sequence is open
unfoldable pub open_count : ℕ → ℕ → ℕ
open_count mask zero = 0
open_count mask (suc x) = open_count mask x + cond (is_open mask x) 1 0

abbrev pub at : Place → Process → Process
at place p = record { place = place; opened = p.opened; keep = p.keep; values = p.values; gathered = p.gathered }

abbrev pub opening : ℕ → Process → Process
opening x p =
    record { place = p.place; opened = with_open p.opened x; keep = p.keep; values = p.values; gathered = p.gathered }

abbrev pub closing : ℕ → Process → Process
closing x p =
    record { place = p.place; opened = with_closed p.opened x; keep = p.keep; values = p.values; gathered = p.gathered }

-- one keep-word for each variable
abbrev pub keeping : ℕ → ℕ → Process → Process
keeping x kept p =
    record { place = p.place; opened = p.opened; keep = set p.keep x kept; values = p.values; gathered = p.gathered }

abbrev pub kept_of : ℕ → Process → ℕ
kept_of x p = get_or p.keep x 0

abbrev pub gathering : ℕ → ℕ → Process → Process
gathering i value p =
    record { place = p.place; opened = p.opened; keep = p.keep; values = p.values; gathered = set p.gathered i value }

abbrev pub no_values : List ℕ
no_values = 0 ∷ 0 ∷ 0 ∷ 0 ∷ []

abbrev pub gathering_anew : Process → Process
gathering_anew p = record { place = p.place; opened = p.opened; keep = p.keep; values = p.values; gathered = no_values }

-- the step is taken, and the call goes on at a place
abbrev pub goes_on : Place → Process → Answered Process
goes_on place p = record { after = at place p; answer = Ok Busy }

-- the last step of a call gives its answer, and makes its process idle
abbrev pub ends : Reply → Process → Answered Process
ends answer p = record { after = at Idle p; answer = answer }

-- a refusal leaves a process, or a board, as found
abbrev pub refusing : {S : Type 0} → S → Refusal → Answered S
refusing state refusal = record { after = state; answer = Err refusal }

-- past the end of a list of processes, what the walk of the code takes too
abbrev pub nobody : Process
nobody = record { place = Idle; opened = 0; keep = []; values = []; gathered = [] }

abbrev pub process_at : Board → ℕ → Process
process_at board i = get_or board.processes i nobody

abbrev pub put_process : Board → ℕ → Process → Board
put_process board i p = record { settings = board.settings; processes = set board.processes i p }
