-- `feed_running` meets its contract. Assumes nothing.
use native.Mathlib.Omega.{arith}
use mathlib.Core.Path.{sym, ap, ◌∙◌, subst}
use Prim.Native.Nat.{◌<◌}
use lib.ListN.{drop}
use Rattle.rules.specs.Processes.{process_at}
use Rattle.rules.specs.declared.Settings.{Settings}
use Rattle.writing.proofs.Puts.{same_then}
use Rattle.schedule.specs.Feeding.{feeding_to}
use Rattle.schedule.proofs.Feeding.{feed_full}
use Rattle.schedule.proofs.Progress.{progress, used_up, open_on, is_full_lem, room, as_running, running_ready, ended_ready}
use Rattle.schedule.proofs.RunningOn.{running, fed_running, feeds_as, Served, served, too_many, goes_on_lem}
use Rattle.schedule.proofs.chunks.feed_running.Goals as goal

pub returns-then-is_full : goal.returns-then-is_full
returns-then-is_full c =
    let loop = c.loop-next in
    let a = c.args in
    let whole = loop.invariant.8 ∙ as_running a.board a.session a.line.now a.mem.now a.out.now (drop a.at a.chunk.now) c.requires.0 in
    let f = feeding_to (running loop.board loop.count loop.held) loop.line loop.mem loop.out in
    feeds_as _ (fed_running loop.board loop.count loop.held loop.next) c.fed_running.ensures (record {
      fed = sym (feed_full f (drop loop.next a.chunk.now) (is_full_lem f _ _ c.is_full.ensures c.if-is_full.true)) ∙ whole;
      ready = running_ready loop.board loop.count loop.held loop.line loop.mem loop.invariant.1 loop.invariant.3 loop.invariant.4;
      within = loop.invariant.0;
      same = loop.invariant.7;
    })

pub returns-then-count-ge-MOST_RECORDS : goal.returns-then-count-ge-MOST_RECORDS
returns-then-count-ge-MOST_RECORDS c =
    let loop = c.loop-next in
    let a = c.args in
    let whole = loop.invariant.8 ∙ as_running a.board a.session a.line.now a.mem.now a.out.now (drop a.at a.chunk.now) c.requires.0 in
    let gathered = c.gather-found.ensures in
    let ended = c.end_with_too_many-session.ensures in
    record {
      fed = too_many loop.board loop.count loop.held loop.line loop.mem loop.out (drop loop.next a.chunk.now) _ _ _ _
          (room _ _ c.is_full.ensures c.if-is_full.false) gathered.gathered _ _ _ c.if-found.true c.if-count-ge-MOST_RECORDS.true
          c.running.ensures ended ∙ whole;
      ready = ended_ready _ _ _ _ _ _ _ ended gathered.long;
      within = gathered.within;
      same = same_then loop.invariant.7 ended.printed.same;
    }

pub answer-requires : goal.answer-requires
answer-requires c =
    let loop = c.loop-next in
    let me = c.slot-me.result in
    let mine : me < loop.board.settings.n = omega (arith, c.slot-me.ensures.1, ap (λ (z : Settings). z.n) c.loop-next.invariant.2) in
    let k = served loop.board loop.mem loop.invariant.1 me mine in
    let j = subst (λ (z : Settings). Served z (process_at loop.board me) loop.mem) loop.invariant.2 k in
    (j.sizes, j.room, j.process, j.clean, room _ _ c.is_full.ensures c.if-is_full.false)

pub loop-next-smaller-then-found : goal.loop-next-smaller-then-found
loop-next-smaller-then-found c =
    let loop = c.loop-next in
    let a = c.args in
    progress _ _ a.chunk.now loop.next _ _ c.loop-next-test.true c.gather-found.ensures.gathered

pub loop-next-preserved-then-found : goal.loop-next-preserved-then-found
loop-next-preserved-then-found c =
    let loop = c.loop-next in
    let a = c.args in
    let gathered = c.gather-found.ensures in
    let on =
    goes_on_lem loop.board loop.count loop.held loop.line loop.mem loop.out (drop loop.next a.chunk.now) _ _ _ _
    (room _ _ c.is_full.ensures c.if-is_full.false) gathered.gathered loop.invariant.1 _ loop.invariant.2 _ _ _ _ _ c.if-found.true
    c.if-count-ge-MOST_RECORDS.false c.read_schedule-read.ensures c.slot-me.ensures.0 c.answer.ensures in (
      gathered.within,
      on.0,
      on.1,
      omega arith,
      gathered.long,
      omega (arith, gathered.long),
      omega arith,
      same_then loop.invariant.7 c.answer.ensures.row.same,
      on.2 ∙ loop.invariant.8,
    )

pub loop-next-smaller : goal.loop-next-smaller
loop-next-smaller c =
    let loop = c.loop-next in
    let a = c.args in
    progress _ _ a.chunk.now loop.next _ _ c.loop-next-test.true c.gather-found.ensures.gathered

pub loop-next-preserved : goal.loop-next-preserved
loop-next-preserved c =
    let loop = c.loop-next in
    let a = c.args in
    let gathered = c.gather-found.ensures in (
      gathered.within,
      loop.invariant.1,
      loop.invariant.2,
      gathered.kept,
      gathered.long,
      omega (arith, gathered.long),
      loop.invariant.6,
      loop.invariant.7,
      open_on loop.board loop.count loop.held loop.line loop.mem loop.out (drop loop.next a.chunk.now) _ _ _ _
          (room _ _ c.is_full.ensures c.if-is_full.false) gathered.gathered c.if-found.false ∙ loop.invariant.8,
    )

pub returns : goal.returns
returns c =
    let loop = c.loop-next in
    let a = c.args in
    let whole = loop.invariant.8 ∙ as_running a.board a.session a.line.now a.mem.now a.out.now (drop a.at a.chunk.now) c.requires.0 in
    let f = feeding_to (running loop.board loop.count loop.held) loop.line loop.mem loop.out in
    feeds_as _ (fed_running loop.board loop.count loop.held loop.next) c.fed_running-2.ensures (record {
      fed = used_up f a.chunk.now loop.next c.loop-next-test.false ∙ whole;
      ready = running_ready loop.board loop.count loop.held loop.line loop.mem loop.invariant.1 loop.invariant.3 loop.invariant.4;
      within = loop.invariant.0;
      same = loop.invariant.7;
    })
