use Rattle.std.proofs.Common.{arith}
use Rattle.boc_chain.proofs.Rooms.{on_err, line_inside, awaited_fits, lists_same, room_made, room_refused}
use Rattle.boc_chain.proofs.list_chains.make_room.Goals as goal

pub count_awaited-awaited-requires : goal.count_awaited-awaited-requires
count_awaited-awaited-requires c = omega (
  arith,
  awaited_fits c.args.lines.now.items c.loop-cown.lines.items c.args.places.now c.args.cowns.now
      c.loop-cown.cown-index c.loop-cown-test.true c.requires.distinct c.requires.in_range c.loop-cown.invariant.0 c.loop-cown.invariant.1,
)

pub index_mut-requires : goal.index_mut-requires
index_mut-requires c = omega (
  arith,
  line_inside c.args.lines.now.items c.loop-cown.lines.items c.args.places.now c.args.cowns.now c.loop-cown.cown-index
      c.loop-cown-test.true c.requires.distinct c.requires.in_range c.loop-cown.invariant.0 c.loop-cown.invariant.1,
  c.loop-cown.lines.ok.0,
)

pub overflow_add-awaited : goal.overflow_add-awaited
overflow_add-awaited c = omega (
  arith,
  awaited_fits c.args.lines.now.items c.loop-cown.lines.items c.args.places.now c.args.cowns.now c.loop-cown.cown-index
      c.loop-cown-test.true c.requires.distinct c.requires.in_range c.loop-cown.invariant.0 c.loop-cown.invariant.1,
  c.count_awaited-awaited.ensures,
)

pub returns-in_err-reserve-clause-err : goal.returns-in_err-reserve-clause-err
returns-in_err-reserve-clause-err c = on_err c.from_residual.result
    (room_refused c.args.lines.now.items c.loop-cown.lines.items c.args.places.now c.args.cowns.now c.loop-cown.cown-index c.loop-cown-test.true
    c.requires.distinct c.requires.in_range c.loop-cown.invariant.0 c.loop-cown.invariant.1 c.reserve.new.self c.index_mut.result.now c.index_mut.ensures.value
    c.reserve.ensures.len c.reserve.ensures.capacity)

pub returns-in_err-reserve-clause-items : goal.returns-in_err-reserve-clause-items
returns-in_err-reserve-clause-items c = lists_same c.args.lines.now.items c.loop-cown.lines.items c.args.places.now c.args.cowns.now c.loop-cown.cown-index
    c.loop-cown-test.true c.requires.distinct c.requires.in_range c.loop-cown.invariant.0 c.loop-cown.invariant.1 c.reserve.new.self c.index_mut.result.now
    c.index_mut.ensures.value c.reserve.ensures.items

pub loop-cown-preserved : goal.loop-cown-preserved
loop-cown-preserved c = (
  lists_same c.args.lines.now.items c.loop-cown.lines.items c.args.places.now c.args.cowns.now c.loop-cown.cown-index c.loop-cown-test.true c.requires.distinct
      c.requires.in_range c.loop-cown.invariant.0 c.loop-cown.invariant.1 c.reserve.new.self c.index_mut.result.now c.index_mut.ensures.value
      c.reserve.ensures.items,
  room_made c.args.lines.now.items c.loop-cown.lines.items c.args.places.now c.args.cowns.now c.loop-cown.cown-index c.loop-cown-test.true c.requires.distinct
      c.requires.in_range c.loop-cown.invariant.0 c.loop-cown.invariant.1 c.reserve.new.self c.index_mut.result.now c.count_awaited-awaited.result
      c.index_mut.ensures.value c.count_awaited-awaited.ensures c.in_ok-reserve.ensures.ok,
)
