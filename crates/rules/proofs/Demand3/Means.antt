-- What it is for the whole board to stand for a state of the machine over versions, and what both then tell of a process's
-- place. Assumes nothing.
use mathlib.Core.Path.{◌≡◌, refl, sym}
use mathlib.Core.Bool.{true, false}
use mathlib.Core.List.{List}
use Prim.Native.Nat.{ℕ, ◌<◌}
use lib.ListN.{length, get_or}
use Rattle.rules.specs.Onlooker.{Seen}
use Rattle.rules.specs.Processes.{is_idle, nobody}
use Rattle.rules.specs.Sizes.{bits}
use Rattle.rules.specs.Types.{Kind, One, Many, Place, Process, Settings}
use Rattle.rules.proofs.Changes.Places.{variable_at}
use Rattle.rules.proofs.Tests.{never}
use Rattle.rules.proofs.Calls.Told.{sequence_at}
use Rattle.rules.proofs.Demand3.Invariant.Begin.{past}
use Rattle.rules.proofs.Demand3.Invariant.Whole.{Proc, State}
use Rattle.rules.proofs.Demand3.Link.Keeping.{Held}
use Rattle.rules.proofs.Demand3.Link.Memory.{MemK}
use Rattle.rules.proofs.Demand3.Link.Stands.{StandsOne, one_idle, one_load, one_validate, one_store, Stands, at_idle, at_load, at_validate, at_store, at_announce, at_swap, at_segment, at_announced, at_segment_swap, at_again, at_header, StandsK}
use Rattle.rules.proofs.Demand3.Machine.{Place as Stand, idle}

-- a process of the board stands for one of the machine
pub record ProcessMeans (k : Kind) (s : Settings) (r : Proc) (q : Process) : Type 0 where
  pub stands : StandsK k (bits s) r.at q.values q.gathered q.place r.place
  pub held : Held k s r.sequences q.keep q.opened

-- so do all, with the words and what was seen
pub record BoardMeans (s : Settings) (st : State) (processes : List Process) (words : List ℕ) (seen : ℕ → Seen) : Type 0 where
  pub sixteen : length processes ≡ 16
  pub memory : MemK s.kind s st.vars st.rows words
  pub process : (p : ℕ) → p < s.n → ProcessMeans s.kind s (st.procs p) (get_or processes p nobody)
  pub as_seen : (x : ℕ) → seen x ≡ (st.vars x).seen

-- what both tell of a place
pub record Alike (x : ℕ) (place : Place) (stand : Stand) : Type 0 where
  pub variable : is_idle place ≡ false → variable_at place ≡ x
  pub sequence : past stand ≡ sequence_at place
  pub idle' : is_idle place ≡ true → stand ≡ idle

alike_one : {x : ℕ} {new : List ℕ} {place : Place} {stand : Stand} → StandsOne x new place stand → Alike x place stand
alike_one one_idle = record { variable = λ e. never e; sequence = refl; idle' = λ e. refl }
alike_one one_load = record { variable = λ e. refl; sequence = refl; idle' = λ e. never (sym e) }
alike_one one_validate = record { variable = λ e. refl; sequence = refl; idle' = λ e. never (sym e) }
alike_one one_store = record { variable = λ e. refl; sequence = refl; idle' = λ e. never (sym e) }

alike_many : {b x : ℕ} {new got : List ℕ} {place : Place} {stand : Stand} → Stands b x new got place stand → Alike x place stand
alike_many at_idle = record { variable = λ e. never e; sequence = refl; idle' = λ e. refl }
alike_many at_load = record { variable = λ e. refl; sequence = refl; idle' = λ e. never (sym e) }
alike_many at_validate = record { variable = λ e. refl; sequence = refl; idle' = λ e. never (sym e) }
alike_many at_store = record { variable = λ e. refl; sequence = refl; idle' = λ e. never (sym e) }
alike_many (at_announce M) = record { variable = λ e. refl; sequence = refl; idle' = λ e. never (sym e) }
alike_many (at_swap M) = record { variable = λ e. refl; sequence = refl; idle' = λ e. never (sym e) }
alike_many (at_segment M G) = record { variable = λ e. refl; sequence = refl; idle' = λ e. never (sym e) }
alike_many (at_announced M G y) = record { variable = λ e. refl; sequence = refl; idle' = λ e. never (sym e) }
alike_many (at_segment_swap M G y) = record { variable = λ e. refl; sequence = refl; idle' = λ e. never (sym e) }
alike_many (at_again M G) = record { variable = λ e. refl; sequence = refl; idle' = λ e. never (sym e) }
alike_many (at_header M G) = record { variable = λ e. refl; sequence = refl; idle' = λ e. never (sym e) }

pub alike : (k : Kind) (s : Settings) (r : Proc) (q : Process) → ProcessMeans k s r q → Alike r.at q.place r.place
alike One s r q m = alike_one m.stands
alike Many s r q m = alike_many m.stands
