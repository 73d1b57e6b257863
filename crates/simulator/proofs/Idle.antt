-- What `print` promises is not met by a program that reads nothing, since neither the input nor the run has then come to its end;
-- nor by one that writes nothing while no write fails. Assumes nothing.
use native.Mathlib.Omega.{arith}
use Prim.Native.Nat.{ℕ}
use mathlib.Core.Path.{◌≡◌, sym, ap}
use mathlib.Core.Bool.{false}
use mathlib.Core.List.{List}
use lib.ListN.{length-append}
use Rattle.printout.specs.Row.{heading}
use Rattle.answers.specs.Records.{records_of}
use Rattle.answers.specs.Run.{Run, beginning_run, rows_of, printout_of}
use Rattle.schedule.specs.WholeInput.{started}
use Rattle.schedule.proofs.Takes.{takes_nothing}
use Rattle.simulator.specs.declared.input.Input.{Input}
use Rattle.simulator.specs.declared.output.Output.{Output}
use Rattle.simulator.specs.Inputs.{stopped}
use Rattle.simulator.specs.Points.{Prints}
use Rattle.simulator.proofs.Outputs.{not_both}

module _ (line out out_after : List ℕ) (after : Output) where
  pub not_unread : Prints line out out_after after (record { total = 0; ended = false }) → ⊥
  not_unread prints =
      let still = takes_nothing (started line out).feeding prints.ends.before prints.ends.bytes prints.ends.written (sym prints.read)
      prints.ends.takes in
      not_both (ap (λ (run : Run). stopped (record { total = 0; ended = false }) run.stage) still) prints.stops

  pub not_unwritten : (input : Input) → after.failed ≡ false → after.written ≡ 0 → Prints line out out_after after input → ⊥
  unfolding printout_of
  not_unwritten input whole none prints =
      let rows = rows_of beginning_run (records_of prints.ends.bytes) in
      omega (arith, none, prints.counted whole, length-append heading rows)
