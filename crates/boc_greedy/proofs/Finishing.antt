-- A simulation in which no row can start and every worker is idle has made the greedy plan.
use Rattle.std.proofs.Common.{◌≡◌, ℕ, ◌<◌, List, [], length, sym, ap, arith}
use Rattle.std.specs.BinaryHeap.{heap_items}
use Rattle.boc_runs.specs.declared.rows.Row.{Row}
use Rattle.boc_runs.specs.Rows.{IsRows}
use Rattle.boc_plans.specs.Greedy.{IsMoment}
use Rattle.boc_greedy.specs.declared.simulation.Simulation.{Simulation}
use Rattle.boc_greedy.specs.Done.{IsDone}
use Rattle.boc_greedy.specs.Simulating.{later, IsPast}
use Rattle.boc_greedy.specs.Queues.{IsIn}
use Rattle.boc_greedy.specs.Stepping.{IsSimulated, IsGiving, IsSettled}
use Rattle.boc_greedy.proofs.Advancing.{over_all, greedy_all, past_all}
use Rattle.boc_greedy.proofs.Counting.{counts_same}

pub done : (rows : List Row) (p : ℕ) (s : Simulation) → IsRows rows → IsSettled rows s → s.p ≡ p → 0 < p → heap_items s.queue ≡ [] → IsDone rows p s
done rows p s shape settled asked some empty = rw (sym asked) (record {
  greedy = greedy_all _ shape _ later _ _ _ _ _ _ _ k g.given g.passed settled.full s_some none;
  moments = counts_same _ (IsPast rows s.starts.items s.tick) (IsMoment rows s.starts.items) (λ x i. i.moment)
      (λ x m. record { come = past_all _ shape _ later _ _ _ _ _ _ _ k g.given g.passed settled.full s_some none x m; moment = m }) g.counted.all;
  low = λ r h. omega (arith, over_all _ shape _ later _ _ _ _ _ _ _ k g.given g.passed settled.full s_some none r h, g.low, shape.not_many);
})
  where
    g : IsGiving rows s
    g = settled.giving

    k : IsSimulated rows s
    k = g.kept

    s_some : 0 < s.p
    s_some = omega (arith, asked, some)

    none : (at q : ℕ) → IsIn (heap_items s.queue) at q → ⊥
    none at q i = omega (arith, i.1, ap length empty)
