-- `feed_set_up` meets its contract: the record is gathered, and answered where it is closed. Assumes nothing.
use native.Mathlib.Omega.{arith}
use mathlib.Core.Path.{refl, ap}
use Rattle.schedule.proofs.FedOn.{fed_open, fed_left, reads_waiting, set_up_leaves}
use Rattle.schedule.proofs.Tellings.{in_stage, session_order, record_order}
use lib.ListN.{drop}
use Rattle.schedule.specs.Feeding.{run_of}
use Rattle.schedule.specs.declared.Session.{Session}
use Rattle.answers.specs.declared.Stage.TheVariants.{Waiting}
use Rattle.schedule.proofs.chunks.feed_set_up.Goals as goal

pub returns-then-found : goal.returns-then-found
returns-then-found c =
    let a = c.args in
    let tell = c.take_set_up-session.ensures in
    let told = in_stage a.session a.mem.now a.out.now Waiting _ _ _ _ c.requires.0 tell in
    record {
      fed = fed_left a.session a.line.now a.mem.now a.out.now (drop a.at a.chunk.now) _ _ _ _ c.requires.3
          (reads_waiting a.session.stage c.requires.0) c.gather-found.ensures.gathered _ _ _ c.if-found.true told
          (set_up_leaves a.session _ a.mem.now _ _ a.out.now _ c.requires.0 tell);
      ready = record {
        order = session_order _ a.out.now _ _ _ told (record_order (run_of a.session a.mem.now) _ c.requires.1.order);
        held = omega (arith, ap (λ (s : Session). s.held.len) tell.session);
        long = c.gather-found.ensures.long;
      };
      within = c.gather-found.ensures.within;
      same = tell.printed.same;
    }

pub returns-else-found : goal.returns-else-found
returns-else-found c =
    let a = c.args in
    record {
      fed = fed_open a.session a.line.now a.mem.now a.out.now (drop a.at a.chunk.now) _ _ _ _ c.requires.3
          (reads_waiting a.session.stage c.requires.0) c.gather-found.ensures.gathered c.if-found.false;
      ready = record { order = c.requires.1.order; held = c.gather-found.ensures.kept; long = c.gather-found.ensures.long };
      within = c.gather-found.ensures.within;
      same = record { name = refl; long = refl };
    }
