use Rattle.std.proofs.Common.{◌≡◌, ◌<◌, ◌∙◌, List, length, refl, arith}
use Rattle.std.proofs.lemmas.Option.{slice_get_within}
use Rattle.boc_runs.specs.declared.rows.Row.{Row}
use Rattle.boc_greedy.specs.declared.frontier.RowState.TheVariants.{UnderWay}
use Rattle.boc_greedy.proofs.Alike.{alike_self}
use Rattle.boc_greedy.proofs.Forking.{settled_fork}
use Rattle.boc_greedy.proofs.Timing.{timed_low}
use Rattle.boc_greedy.proofs.course.Course.copied.Goals as goal

pub queue_of-requires-clause-low : goal.queue_of-requires-clause-low
queue_of-requires-clause-low c =
    let g = c.requires.course.1.settled.giving in
    let k = g.kept in
    rw (c.deref.ensures.value, c.deref-2.ensures.value, c.deref-3.ensures.value) (λ r e.
    (let there : r < length c.args.rows.now = omega (arith, k.states_are.states_whole, slice_get_within _ r UnderWay e) in
    omega (arith, (k.under_way r e).begun, k.early, timed_low _ c.requires.shape r _ _ there (g.are_timed r there))))

pub returns : goal.returns
returns c = λ p is. (
    let s = c.args.self.now.simulation in
    let rows : List Row = c.args.rows.now in
    let made = c.in_ok-copy.ensures in
    let first : c.in_ok-copy.copy.first.items ≡ s.first.items = made.first ∙ c.in_ok-first.ensures.items ∙ c.deref-4.ensures.value in
    record {
      settled = settled_fork rows rows s c.in_ok-copy.copy is.settled (alike_self rows s.starts.items s.tick) is.settled.giving.frontier
          made.copy
          (rw first (λ r. refl))
          (rw first refl)
          (rw first is.settled.giving.are_timed)
          (rw made.next is.settled.giving.are_next)
          (rw (made.queue, first) (rw (c.deref.ensures.value, c.deref-2.ensures.value, c.deref-3.ensures.value) at c.in_ok-queue.ensures));
      asked = made.copy.p ∙ is.asked;
    })
