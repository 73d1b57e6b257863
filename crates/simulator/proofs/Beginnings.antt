-- The first point of a run: where the whole-input theorem begins, with the heading waiting. Assumes nothing.
use Prim.Native.Nat.{ℕ, ◌≤◌}
use native.Mathlib.Omega.{arith}
use mathlib.Core.Path.{◌≡◌, sym, ap, ◌∙◌, subst}
use mathlib.Core.Bool.{false}
use mathlib.Core.List.{List}
use lib.ListN.{length, replicate}
use Rattle.writing.specs.declared.writer.Writer.{Writer}
use Rattle.printout.specs.Writing.{Written, put_heading, longest_row}
use Rattle.answers.specs.Run.{beginning_run}
use Rattle.schedule.specs.declared.Session.{Session}
use Rattle.schedule.specs.Feeding.{Feeding, feeding, session_of}
use Rattle.schedule.specs.Gathering.{line_length}
use Rattle.schedule.specs.Longest.{longest_printout, may_hold}
use Rattle.schedule.specs.WholeInput.{started}
use Rattle.schedule.proofs.Callers.{started_within, start_is, start_ready}
use Rattle.simulator.specs.declared.output.Output.{Output}
use Rattle.simulator.specs.Points.{point, feeding_at, Stands}

module _ (session : Session) (line words out : List ℕ) (lent : Writer) (out_after : List ℕ) (given : out_after ≡ lent.bytes.now) (held : Output)
    (first : session ≡ session_of beginning_run) (put : ◌≡◌ {A = Written} (lent.bytes.now, lent.len) (put_heading out 0))
    (room : longest_row ≤ length out) (zeros : words ≡ replicate 144 0) (waits : held ≡ record { len = lent.len; written = 0; failed = false }) where
  pub begins : feeding_at (point session line words out_after held) ≡ (started line out).feeding
  begins =
      ap (λ (o : Output). feeding session line words out_after o.len) waits
      ∙ ap (λ (w : List ℕ). feeding session line w out_after lent.len) zeros
      ∙ ap (λ (l : List ℕ). feeding session line (replicate 144 0) l lent.len) given
      ∙ start_is session line out lent.bytes.now lent.len first put room

  pub stands_first : length line ≡ line_length → length lent.bytes.now ≡ length out → Stands (point session line words out_after held)
  unfolding may_hold
  stands_first long same =
      let most : may_hold (feeding_at (point session line words out_after held)) ≤ longest_printout =
      subst (λ (f : Feeding). may_hold f ≤ longest_printout) (sym begins) (omega arith) in
      record {
        ready = start_ready session line words first long;
        within = started_within line out (feeding_at (point session line words out_after held)) begins room;
        room = omega (arith, room, same, ap (λ (l : List ℕ). length l) given);
        bounded = omega (arith, most, ap (λ (o : Output). o.written) waits);
      }
