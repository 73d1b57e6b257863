-- Each clause of good form, by computation: a board at the clause's limit passes, and one that breaks this clause alone is
-- refused 3. N 2, T 1, b 4 and W 1, so that values lie below 2^60; process 0 is the one that is set. Assumes nothing.
use mathlib.Core.Path.{◌≡◌, refl}
use mathlib.Core.Bool.{true}
use mathlib.Core.List.{List}
use Prim.Native.Nat.{ℕ, ◌-◌, ◌^◌}
use lib.ListN.{replicate, set}
use Rattle.rules.specs.Entry.{fresh_process, fresh_board}
use Rattle.rules.specs.Processes.{at, opening, keeping, gathering, no_values, put_process}
use Rattle.rules.specs.Refusals.{process_check}
use Rattle.rules.specs.Schedules.{settings}
use Rattle.rules.specs.Types.{NotInGoodForm, Ok, Err, Copy, Kind, One, Many, Place, LoadReadsWord, ValidateReadsWord, StoreSwapsWord, LoadReadsHeader, ValidateReadsHeader, StoreReadsHeader, StoreAnnounces, StoreSwapsHeader, ReadsSegment, ReadsAnnounced, SwapsSegment, ReadsSegmentAgain, ReadsHeader, Process}
use Rattle.rules.specs.Refusals.{Check}
use Rattle.rules.proofs.Cases.Computing.{schedule}

-- what the open count's check says of a board with this process, over these words
abbrev checked : Kind → Process → List ℕ → Check
checked kind p words = process_check (put_process (fresh_board (settings 2 kind 1 4 1)) 0 p) 0 words

-- header, segment, and a row for each process
abbrev zeros : List ℕ
zeros = replicate 4 0

-- with and without the sequence on variable 0 open
abbrev opened : Place → Check
opened place = checked Many (at place (opening 0 fresh_process)) zeros

abbrev shut : Place → Check
shut place = checked Many (at place fresh_process) zeros

abbrev limit : ℕ
limit = 2 ^ 60

abbrev copy : ℕ → ℕ → Copy
copy header segment = record { variable = 0; header = header; segment = segment; gathers = true }

abbrev storing : ℕ → Process
storing v =
    record {
      place = fresh_process.place;
      opened = 0;
      keep = fresh_process.keep;
      values = set no_values 3 v;
      gathered = no_values;
    }

-- at the limit it passes; past it, it is refused
abbrev Bounds : Check → Check → Type 0
Bounds within past = (within ≡ Ok tt) × (past ≡ Err NotInGoodForm)

pub record ClauseLimits : Type 0 where
  -- the place is one the kind has
  pub kind_one : Bounds (checked One (at (LoadReadsWord 0) fresh_process) zeros) (checked One (at (LoadReadsHeader 0) fresh_process) zeros)
  pub kind_many : Bounds (shut (LoadReadsHeader 0)) (shut (LoadReadsWord 0))
  -- the variable is below T and the segment below W
  pub variable : Bounds (shut (LoadReadsHeader 0)) (shut (LoadReadsHeader 1))
  pub announces_segment : Bounds (opened (StoreAnnounces 0 0 0)) (opened (StoreAnnounces 0 0 1))
  pub copy_segment : Bounds (opened (ReadsSegment (copy 0 0))) (opened (ReadsSegment (copy 0 1)))
  -- a held header and each header in memory names a process below N
  pub held_header_lem : Bounds (opened (StoreSwapsHeader 0 1)) (opened (StoreSwapsHeader 0 2))
  pub copy_header : Bounds (opened (ReadsSegmentAgain (copy 1 0))) (opened (ReadsSegmentAgain (copy 2 0)))
  pub header : Bounds (checked Many fresh_process (set zeros 0 1)) (checked Many fresh_process (set zeros 0 2))
  -- kept tags are below 2^b
  pub kept : Bounds (checked Many (keeping 0 15 fresh_process) zeros) (checked Many (keeping 0 16 fresh_process) zeros)
  -- held, gathered and announced values are below 2^(64 - b)
  pub new_value : Bounds (checked Many (storing (limit - 1)) zeros) (checked Many (storing limit) zeros)
  pub gathered : Bounds (checked Many (gathering 3 (limit - 1) fresh_process) zeros) (checked Many (gathering 3 limit fresh_process) zeros)
  pub held_announced : Bounds (opened (SwapsSegment (copy 0 0) 0 (limit - 1))) (opened (SwapsSegment (copy 0 0) 0 limit))
  pub held_value : Bounds (opened (ReadsHeader (copy 0 0) (limit - 1))) (opened (ReadsHeader (copy 0 0) limit))
  pub announced : Bounds (checked Many fresh_process (set zeros 3 (limit - 1))) (checked Many fresh_process (set zeros 3 limit))
  -- no sequence is open on a variable T or above
  pub open_past : Bounds (checked Many (opening 0 fresh_process) zeros) (checked Many (opening 1 fresh_process) zeros)
  -- a validate or store in progress has its sequence open, as has a load past its first step
  pub one_validate : Bounds (checked One (at (ValidateReadsWord 0) (opening 0 fresh_process)) zeros) (checked One (at (ValidateReadsWord 0) fresh_process) zeros)
  pub one_store : Bounds (checked One (at (StoreSwapsWord 0) (opening 0 fresh_process)) zeros) (checked One (at (StoreSwapsWord 0) fresh_process) zeros)
  pub many_validate : Bounds (opened (ValidateReadsHeader 0)) (shut (ValidateReadsHeader 0))
  pub many_store : Bounds (opened (StoreReadsHeader 0)) (shut (StoreReadsHeader 0))
  pub announces : Bounds (opened (StoreAnnounces 0 0 0)) (shut (StoreAnnounces 0 0 0))
  pub swaps_header_lem : Bounds (opened (StoreSwapsHeader 0 0)) (shut (StoreSwapsHeader 0 0))
  pub reads_segment_lem : Bounds (opened (ReadsSegment (copy 0 0))) (shut (ReadsSegment (copy 0 0)))
  pub reads_announced_lem : Bounds (opened (ReadsAnnounced (copy 0 0) 0)) (shut (ReadsAnnounced (copy 0 0) 0))
  pub swaps_segment_lem : Bounds (opened (SwapsSegment (copy 0 0) 0 0)) (shut (SwapsSegment (copy 0 0) 0 0))
  pub reads_again_lem : Bounds (opened (ReadsSegmentAgain (copy 0 0))) (shut (ReadsSegmentAgain (copy 0 0)))
  pub reads_header_lem : Bounds (opened (ReadsHeader (copy 0 0) 0)) (shut (ReadsHeader (copy 0 0) 0))

pub every_clause : ClauseLimits
unfolding schedule
every_clause =
    record {
      kind_one = (refl, refl);
      kind_many = (refl, refl);
      variable = (refl, refl);
      announces_segment = (refl, refl);
      copy_segment = (refl, refl);
      held_header_lem = (refl, refl);
      copy_header = (refl, refl);
      header = (refl, refl);
      kept = (refl, refl);
      new_value = (refl, refl);
      gathered = (refl, refl);
      held_announced = (refl, refl);
      held_value = (refl, refl);
      announced = (refl, refl);
      open_past = (refl, refl);
      one_validate = (refl, refl);
      one_store = (refl, refl);
      many_validate = (refl, refl);
      many_store = (refl, refl);
      announces = (refl, refl);
      swaps_header_lem = (refl, refl);
      reads_segment_lem = (refl, refl);
      reads_announced_lem = (refl, refl);
      swaps_segment_lem = (refl, refl);
      reads_again_lem = (refl, refl);
      reads_header_lem = (refl, refl);
    }
