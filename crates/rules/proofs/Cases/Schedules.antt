-- P1 to P10 hold, by computation from the rules. Assumes nothing.
use mathlib.Core.Path.{refl}
use Rattle.rules.specs.Schedules.{Schedules}
use Rattle.rules.proofs.Cases.Computing.{schedule}

pub hold : Schedules
unfolding schedule
hold =
    record {
      p1 = refl;
      p2 = (refl, refl);
      p3 = refl;
      p4 = (refl, refl);
      p5 = refl;
      p6 = (refl, refl, refl, refl);
      p7 = refl;
      p8 = refl;
      p9 = refl;
      p10 = refl;
    }
