use Rattle.std.proofs.Common.{List, length, ap, arith}
use Rattle.std.specs.BinaryHeap.{heap_items}
use Rattle.boc_runs.specs.declared.rows.Row.{Row}
use Rattle.boc_greedy.specs.declared.simulation.Simulation.{Simulation}
use Rattle.boc_greedy.specs.Simulating.{HasPassed}
use Rattle.boc_greedy.specs.Stepping.{IsStepping, IsGiving, IsLow}
use Rattle.boc_greedy.proofs.Beginning.{given_fresh}
use Rattle.boc_greedy.proofs.Queued.{on_top}
use Rattle.boc_greedy.proofs.simulation.Simulation.change_all.Goals as goal

-- where the next change is a later one, all changes of this tick are made
gives : (rows : List Row) (s : Simulation) → IsStepping rows s → IsLow rows s → HasPassed (heap_items s.queue) s.tick → IsGiving rows s
gives rows s i low passed = record {
  frontier = i.frontier;
  kept = i.kept;
  given = given_fresh rows s.p _ _ _ s.idle s.tick i.fresh;
  passed = passed;
  are_timed = i.are_timed;
  are_next = i.are_next;
  queue = i.queue;
  counted = i.counted;
  low = low;
}

pub returns-then-tick-self-clause-giving : goal.returns-then-tick-self-clause-giving
returns-then-tick-self-clause-giving c =
    let i = c.loop-tick.invariant in
    let s = c.loop-tick.self in
    let y = i.stepping.kept.busy _ _ (on_top _ _ _ c.in-Some.ensures.top) in
    gives _ s i.stepping (omega (arith, c.requires.low, i.tick_stays, i.no_more))
    (λ at r in_queue. omega (arith, y.ahead, c.if-tick-self.true, c.in-Some.ensures.least at r in_queue))

pub returns-clause-giving : goal.returns-clause-giving
returns-clause-giving c =
    let i = c.loop-tick.invariant in
    gives _ c.loop-tick.self i.stepping (omega (arith, c.requires.low, i.tick_stays, i.no_more))
    (λ at r in_queue. absurd (omega (arith, in_queue.1, ap length c.in_default.ensures.none)))
