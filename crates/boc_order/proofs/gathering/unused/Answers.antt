use Rattle.std.proofs.Common.{refl, arith}
use Rattle.std.proofs.lemmas.List.{length_push}
use Rattle.boc_order.proofs.Using.{unused_more, unused_all}
use Rattle.boc_order.proofs.gathering.unused.Goals as goal

pub loop-preserved : goal.loop-preserved
loop-preserved c = record {
  count = rw c.push_reserved.ensures.items (omega (arith, length_push c.loop.uses.items, c.loop.invariant.count));
  room = omega (arith, c.push_reserved.ensures.capacity, c.loop.invariant.room);
  same = omega (arith, c.push_reserved.ensures.len, c.loop.invariant.same);
  unused = rw c.push_reserved.ensures.items (unused_more _ _ c.loop.invariant.unused refl c.new.ensures.items);
}

pub returns : goal.returns
returns c = λ rows. unused_all rows _ (omega (arith, c.loop.invariant.count, c.loop-test.false, c.loop.auto.counter-end)) c.loop.invariant.unused
