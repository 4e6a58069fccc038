use Rattle.boc_order.proofs.Placing.{placed_none}
use Rattle.boc_order.proofs.Using.{adds_all}
use Rattle.boc_order.proofs.plan.plan_of.Goals as goal

pub loop-row-init : goal.loop-row-init
loop-row-init c = record {
  placed = placed_none _ _ _ _ c.in_ok-plan.ensures.none.0 c.in_ok-plan.ensures.none.1 c.in_ok-plan.ensures.none.2;
  room = rw c.len.ensures.count at c.in_ok-plan.ensures.room;
  uses = c.in_ok-uses.ensures c.args.rows.now;
}

pub place_next-requires-clause-waits : goal.place_next-requires-clause-waits
place_next-requires-clause-waits c = rw c.deref.ensures.value (adds_all _ _ _ _ c.clear.ensures.items c.in_ok-gather.ensures.adds)
