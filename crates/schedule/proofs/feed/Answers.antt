-- `feed` meets its contract: by the room in the output and the stage. Assumes nothing.
use mathlib.Core.List.{List}
use Prim.Native.Nat.{ℕ}
use native.Mathlib.Omega.{arith}
use mathlib.Core.Path.{refl, sym, ap, ◌∙◌}
use lib.ListN.{drop}
use lib.Seq.{drop-length}
use Rattle.schedule.specs.Feeding.{feeding_to}
use Rattle.schedule.proofs.Feeding.{feed_full, feed_over}
use Rattle.schedule.proofs.Progress.{is_full_lem}
use Rattle.schedule.proofs.feed.Goals as goal

pub returns-then-is_full : goal.returns-then-is_full
returns-then-is_full c =
    let a = c.args in
    let f = feeding_to a.session a.line.now a.mem.now a.out.now in
    record {
      fed = sym (feed_full f (drop a.at a.chunk.now) (is_full_lem f _ _ c.is_full.ensures c.if-is_full.true));
      ready = c.requires.0;
      within = c.requires.1;
      same = record { name = refl; long = refl };
    }

pub returns-in-Over : goal.returns-in-Over
returns-in-Over c =
    let a = c.args in
    let f = feeding_to a.session a.line.now a.mem.now a.out.now in
    let free = is_full_lem f _ _ c.is_full.ensures c.if-is_full.false in
    record {
      fed = ap (λ (l : List ℕ). (f, l)) (drop-length a.chunk.now) ∙ sym (feed_over f (drop a.at a.chunk.now) free c.in-Over.is);
      ready = c.requires.0;
      within = omega arith;
      same = record { name = refl; long = refl };
    }
