-- `finish` meets its contract: by whether bytes are held. Assumes nothing.
use Rattle.schedule.specs.Feeding.{feeding_to}
use Rattle.schedule.proofs.Finishing.{none_held, some_held}
use Rattle.schedule.proofs.finish.Goals as goal

pub returns-then-held-eq0-clause-fed : goal.returns-then-held-eq0-clause-fed
returns-then-held-eq0-clause-fed c =
    let a = c.args in
    none_held (feeding_to a.session a.line.now a.mem.now a.out.now) c.if-held-eq0.true

pub returns-clause-fed : goal.returns-clause-fed
returns-clause-fed c =
    let a = c.args in
    some_held a.session _ a.line.now a.mem.now _ a.out.now _ c.if-held-eq0.false c.take_record.ensures
