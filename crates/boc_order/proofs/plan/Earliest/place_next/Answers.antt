use Rattle.boc_order.proofs.Placing.{wait_there, all_late, place_placed}
use Rattle.boc_order.proofs.plan.Earliest.place_next.Goals as goal

pub latest_of-requires-clause-there : goal.latest_of-requires-clause-there
latest_of-requires-clause-there c = rw c.deref-2.ensures.value (wait_there _ c.requires.shape _ _ _ _ c.requires.placed c.requires.there _ c.requires.waits)

pub latest_of-requires-clause-late : goal.latest_of-requires-clause-late
latest_of-requires-clause-late c = rw c.deref-2.ensures.value (all_late _ c.requires.shape _ _ _ _ c.requires.placed c.requires.there _ c.requires.waits)

pub returns-clause-placed : goal.returns-clause-placed
returns-clause-placed c =
    rw (c.push_reserved.ensures.items, c.push_reserved-2.ensures.items, c.push_reserved-3.ensures.items, c.from.ensures, c.ticks.ensures)
    (place_placed _ c.requires.shape _ _ _ _ c.requires.placed c.requires.there _ c.requires.waits _ (rw c.deref-2.ensures.value at c.latest_of.ensures)
    c.spawned_at-spawned.result c.spawned_at-spawned.ensures.main (rw c.deref.ensures.value at c.spawned_at-spawned.ensures.child) _
    c.earliest_start-start.ensures)
