-- The end of a run: where all was read, room is made and the last row put, the whole-input theorem tells what was written and
-- what still waits. Assumes nothing.
use Prim.Native.Nat.{ℕ, ◌-◌, ◌≤◌}
use native.Mathlib.Omega.{arith}
use mathlib.Core.Path.{◌≡◌, refl, sym, ap, ◌∙◌, subst}
use mathlib.Core.List.{List, [], ◌++◌, append-nil}
use lib.ListN.{length, take, length-append}
use lib.Seq.{length-take-le}
use Rattle.printout.specs.Writing.{longest_row}
use Rattle.answers.specs.Run.{printout_of}
use Rattle.schedule.specs.Feeding.{Feeding, finish_of}
use Rattle.schedule.specs.Gathering.{line_length}
use Rattle.schedule.specs.Longest.{may_hold}
use Rattle.schedule.specs.WholeInput.{Takes, Ends, started}
use Rattle.schedule.proofs.Callers.{finished_grown}
use Rattle.schedule.proofs.FedOn.{has_room}
use Rattle.schedule.proofs.Longest.{finished_no_more}
use Rattle.schedule.proofs.WholeInput.{whole_input}
use Rattle.simulator.specs.declared.input.Input.{Input}
use Rattle.simulator.specs.declared.output.Output.{Output}
use Rattle.simulator.specs.Outputs.{Flushes}
use Rattle.simulator.specs.Points.{Point, feeding_at, Taken, ReadsAll, Finishes, Runs, Prints}
use Rattle.simulator.proofs.Outputs.{flush_counts}
use Rattle.simulator.proofs.Points.{with_output, taken_both, room_taken, room_stands, room_free}

module _ (line out : List ℕ) (start : Point) (begins : feeding_at start ≡ (started line out).feeding) (unwritten : start.held.written ≡ 0)
    (q : Point) (input : Input) (all : ReadsAll start q input) (out_after : List ℕ) (after : Output) (finishes : Finishes q out_after after) where
  roomy : Feeding
  roomy = feeding_at (with_output q finishes.room)

  taken : Taken start all.bytes (with_output q finishes.room)
  taken =
      subst (λ (l : List ℕ). Taken start l (with_output q finishes.room)) (append-nil all.bytes)
      (taken_both start q (with_output q finishes.room) all.bytes [] all.taken (room_taken q all.stands finishes.room finishes.made))

  free : longest_row ≤ length q.out - finishes.room.len
  free = room_free q all.stands finishes.room finishes.made

  ends : Ends (started line out).feeding out_after after.len
  unfolding roomy
  ends =
      record {
        bytes = all.bytes;
        written = taken.written;
        before = roomy;
        takes = subst (λ (f : Feeding). Takes f all.bytes taken.written roomy) begins taken.takes;
        room = has_room roomy free;
        held = sym (ap (λ (l : List ℕ). take after.len l) finishes.bytes ∙ ap (λ (o : Output). take o.len (finish_of roomy).out) finishes.held);
      }

  pub runs : Runs line out out_after after input
  unfolding roomy ends may_hold
  runs =
      let length_held : after.len ≡ (finish_of roomy).len = ap (λ (o : Output). o.len) finishes.held in
      let written_held : after.written ≡ finishes.room.written = ap (λ (o : Output). o.written) finishes.held in
      let out_long : length out_after ≡ length (finish_of roomy).out = ap (λ (l : List ℕ). length l) finishes.bytes in
      record {
        ends = ends;
        read = all.total;
        stops = all.stops;
        counted = λ e.
            let kept = sym (ap (λ (o : Output). o.failed) finishes.held) ∙ e in
            omega (arith, written_held, taken.counts.counted kept, unwritten);
        within = omega (arith, length_held, out_long, (finished_grown roomy (finish_of roomy) refl free).0);
        bounded = omega (
          arith,
          length_held,
          written_held,
          finished_no_more roomy,
          (room_stands q all.stands finishes.room finishes.made).bounded,
        );
      }

-- what waits last is written too
pub prints : (line out out_after : List ℕ) (held after : Output) (input : Input) → length line ≡ line_length → longest_row ≤ length out
    → Runs line out out_after held input → Flushes held after → Prints line out out_after after input
prints line out out_after held after input long room runs flushes =
    let written = runs.ends.written in
    let last = take held.len out_after in
    let whole : length (written ++ last) ≡ length (printout_of runs.ends.bytes) =
    ap (λ (l : List ℕ). length l) (whole_input.taken line out long room out_after held.len runs.ends) in
    let counts = flush_counts held after flushes in
    record {
      last = held.len;
      ends = runs.ends;
      read = runs.read;
      stops = runs.stops;
      empty = flushes.empty;
      counted = λ e.
          omega (
            arith,
            counts.counted e,
            runs.counted (counts.unfailed e),
            whole,
            length-append written last,
            length-take-le held.len out_after runs.within,
          );
    }
