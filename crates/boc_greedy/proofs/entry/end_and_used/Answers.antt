use Rattle.std.proofs.Common.{ℕ, ◌≡◌, ◌+◌, ◌<◌, ◌≤◌, List, length, slice_index, inl, inr, sym, subst, arith}
use Rattle.boc_plans.specs.Plans.{IsEnd}
use Rattle.boc_greedy.proofs.Used.{end_for_fewer, worker_low}
use Rattle.boc_greedy.proofs.entry.end_and_used.Goals as goal

pub latest_end-end-requires-clause-low : goal.latest_end-end-requires-clause-low
latest_end-end-requires-clause-low c =
    let d = c.in_ok-simulation.ensures in
    rw (c.deref.ensures.value, c.all.ensures) (λ r h. omega (arith, d.low r h, c.requires.shape.ticks_high r h))

-- the numbers of the workers
pub used-requires : goal.used-requires
used-requires c = λ r there.
    let g = c.in_ok-simulation.ensures.greedy in
    let s = c.in_ok-simulation.simulation in
    rw c.deref-2.ensures.value (omega (arith, worker_low c.args.rows.now c.args.p s.starts.items s.workers.items g r (rw c.deref-2.ensures.value at there), c.requires.few))

pub returns-clause-end : goal.returns-clause-end
returns-clause-end c =
    let g = c.in_ok-simulation.ensures.greedy in
    let s = c.in_ok-simulation.simulation in
    let end : IsEnd c.args.rows.now s.starts.items c.latest_end-end.result = rw (c.deref.ensures.value, c.all.ensures) at c.latest_end-end.ensures in
    let above = rw c.deref-2.ensures.value at c.used.ensures.above in
    end_for_fewer c.args.rows.now c.args.p c.used.result s.starts.items s.workers.items c.latest_end-end.result g end above

pub returns-clause-used : goal.returns-clause-used
returns-clause-used c =
    let g = c.in_ok-simulation.ensures.greedy in
    let s = c.in_ok-simulation.simulation in
    elim c.used.ensures.least [
      | inl one ↦ (omega (arith, one), omega (arith, one, c.requires.some))
      | inr (r, there, is) ↦ (
          let low = worker_low c.args.rows.now c.args.p s.starts.items s.workers.items g r (rw c.deref-2.ensures.value at there) in
          let same = rw c.deref-2.ensures.value at is in
          (omega (arith, same), omega (arith, same, low)))
    ]
