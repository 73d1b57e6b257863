-- Reads one after another: as many bytes are taken as were read, and why reading stops. Assumes nothing.
use Prim.Native.Nat.{ℕ, ◌-◌}
use native.Mathlib.Omega.{arith}
use mathlib.Core.Path.{◌≡◌, sym, ap, ◌∙◌}
use mathlib.Core.Bool.{Bool, true, ◌||◌}
use mathlib.Core.List.{List, [], ◌++◌}
use lib.Dec.{leb}
use lib.ListN.{length, take, length-append}
use lib.Seq.{length-take-le}
use Rattle.answers.specs.declared.Stage.{Stage}
use Rattle.schedule.specs.Feeding.{is_over}
use Rattle.simulator.specs.declared.input.Input.{Input}
use Rattle.simulator.specs.Inputs.{most_read, stopped}
use Rattle.simulator.specs.Points.{Point, Stands, Taken, Turns, ReadsAll}
use Rattle.simulator.proofs.Points.{taken_none, taken_both}

-- all reads so far
pub record ReadSome (p q : Point) (input : Input) : Type 0 where
  pub bytes : List ℕ
  pub taken : Taken p bytes q
  pub total : input.total ≡ length bytes
  pub stands : Stands q

pub read_nothing : (p : Point) (input : Input) → input.total ≡ 0 → Stands p → ReadSome p p input
read_nothing p input none stands = record { bytes = []; taken = taken_none p; total = none; stands = stands }

pub read_more : (p q r : Point) (before after : Input) (buffer : List ℕ) → ReadSome p q before → Turns q before r after buffer → ReadSome p r after
read_more p q r before after buffer so_far turn =
    let got = after.total - before.total in
    record {
      bytes = so_far.bytes ++ take got buffer;
      taken = taken_both p q r so_far.bytes (take got buffer) so_far.taken turn.taken;
      total = omega (
        arith,
        so_far.total,
        length-append so_far.bytes (take got buffer),
        length-take-le got buffer (omega (arith, turn.reads.most)),
        turn.reads.more,
      );
      stands = turn.stands;
    }

pub read_all : (p q : Point) (input : Input) → ReadSome p q input → stopped input q.session.stage ≡ true → ReadsAll p q input
read_all p q input some stops = record { bytes = some.bytes; taken = some.taken; total = some.total; stops = stops; stands = some.stands }

-- the test said so
pub stopped_by_test : (input : Input) (stage : Stage) (test : Bool) → test ≡ (input.ended || is_over stage) → test ≡ true → stopped input stage ≡ true
stopped_by_test input stage test e q = ap (λ (t : Bool). t || leb most_read input.total) (sym e ∙ q)
