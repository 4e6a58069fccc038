use Rattle.std.proofs.Common.{arith}
use Rattle.boc_greedy.proofs.entry.end_for.Goals as goal

pub latest_end-requires-clause-low : goal.latest_end-requires-clause-low
latest_end-requires-clause-low c =
    let d = c.in_ok-simulation.ensures in
    rw (c.deref.ensures.value, c.all.ensures) (λ r h. omega (arith, d.low r h, c.requires.shape.ticks_high r h))

pub returns : goal.returns
returns c = record {
  plan = c.in_ok-simulation.simulation.starts.items;
  workers = c.in_ok-simulation.simulation.workers.items;
  greedy = c.in_ok-simulation.ensures.greedy;
  ends = rw (c.deref.ensures.value, c.all.ensures) at c.latest_end.ensures;
}
