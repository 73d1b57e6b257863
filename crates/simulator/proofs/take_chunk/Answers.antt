-- `take_chunk` meets its contract. Assumes nothing.
use native.Mathlib.Omega.{arith}
use mathlib.Core.Path.{refl}
use Rattle.std.proofs.Common.{rules}
use Rattle.simulator.proofs.Points.{taken_none, can_flush, rows_put, forward, goes_on_lem}
use Rattle.simulator.proofs.take_chunk.Goals as goal

pub loop-at-init : goal.loop-at-init
loop-at-init c = (omega arith, record { taken = taken_none _; stands = c.requires })

pub make_room-room-requires : goal.make_room-room-requires
make_room-room-requires c = can_flush _ c.loop-at.invariant.1.stands

pub grown-requires : goal.grown-requires
grown-requires c =
    let loop = c.loop-at in
    let put = rows_put _ loop.invariant.1.stands _ c.make_room-room.ensures _ _ _ refl c.waiting.ensures _ _ _ _ c.feed-fed.ensures in
    omega (arith, put)

pub loop-at-smaller : goal.loop-at-smaller
loop-at-smaller c =
    let loop = c.loop-at in
    let further = forward _ loop.invariant.1.stands _ c.make_room-room.ensures _ _ _ refl c.waiting.ensures _ _ _ _ c.feed-fed.ensures
    c.loop-at-test.true in
    omega (arith, further, c.feed-fed.ensures.within)

pub loop-at-preserved : goal.loop-at-preserved
loop-at-preserved c =
    let loop = c.loop-at in (
      c.feed-fed.ensures.within,
      goes_on_lem _ loop.invariant.1.stands _ c.make_room-room.ensures _ _ _ refl c.waiting.ensures _ _ _ _ c.feed-fed.ensures
          _ loop.invariant.0 _ (search rules) _ c.grown.ensures loop.invariant.1.taken,
    )
