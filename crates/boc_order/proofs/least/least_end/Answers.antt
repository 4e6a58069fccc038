use Rattle.std.proofs.Common.{◌∙◌}
use Rattle.boc_order.proofs.LeastBusy.{busiest_is, until_low}
use Rattle.boc_order.proofs.LeastSpawns.{length-bare}
use Rattle.boc_order.proofs.least.least_end.Goals as goal

pub busiest_of-busiest-requires-clause-low : goal.busiest_of-busiest-requires-clause-low
busiest_of-busiest-requires-clause-low c =
    rw (c.deref-2.ensures.value, c.deref-3.ensures.value) (until_low c.args.rows.now c.in_ok-plan.plan.starts.items c.in_ok-loads.loads.items
    c.in_ok-firsts.firsts.items c.in_ok-loads.ensures (rw c.deref.ensures.value at c.in_ok-firsts.ensures) c.requires.shape c.in_ok-plan.ensures.low
    (c.in_ok-plan.ensures.is.earliest.keeps.whole ∙ length-bare c.args.rows.now))

pub returns : goal.returns
returns c = record {
  spawned = c.in_ok-plan.plan.starts.items;
  by_spawns = c.in_ok-plan.ensures.is;
  busiest = busiest_is c.args.rows.now c.in_ok-plan.plan.starts.items c.in_ok-loads.loads.items c.in_ok-firsts.firsts.items
      c.in_ok-loads.ensures (rw c.deref.ensures.value at c.in_ok-firsts.ensures) c.args.count c.busiest_of-busiest.result c.requires.few
      (rw (c.deref-2.ensures.value, c.deref-3.ensures.value) at c.busiest_of-busiest.ensures);
}
