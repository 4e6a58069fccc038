use Rattle.std.proofs.Common.{◌≡◌, ◌<◌, ◌∙◌, List, length, ap, arith}
use Rattle.std.proofs.lemmas.List.{length-map}
use Rattle.std.proofs.lemmas.Option.{slice_get_within}
use Rattle.boc_runs.specs.declared.rows.Row.{Row}
use Rattle.boc_runs.specs.Rows.{IsRows}
use Rattle.boc_runs.proofs.Editing.{length-edited, rows_edited}
use Rattle.boc_greedy.specs.declared.frontier.RowState.TheVariants.{UnderWay}
use Rattle.boc_greedy.proofs.Alike.{alike_edited}
use Rattle.boc_greedy.proofs.Forking.{frontier_stays, settled_fork}
use Rattle.boc_greedy.proofs.Timing.{timed_low}
use Rattle.boc_greedy.proofs.course.forked.Goals as goal

pub queue_of-requires-clause-low : goal.queue_of-requires-clause-low
queue_of-requires-clause-low c =
    let k = c.requires.settled.giving.kept in
    let shape : IsRows c.args.changed.now = rw c.requires.changed (rows_edited _ c.requires.shape _ _ c.requires.fits) in
    let count : length c.args.changed.now ≡ length c.args.rows.now = ap (length {A = Row}) c.requires.changed ∙ length-edited _ _ _ in
    rw (c.deref-2.ensures.value, c.deref-3.ensures.value, c.deref-4.ensures.value) (λ r e.
    (let there : r < length c.args.changed.now = omega (arith, count, k.states_are.states_whole, slice_get_within _ r UnderWay e) in
    omega (arith, (k.under_way r e).begun, k.early, timed_low _ shape r _ _ there (c.in_ok-first.ensures.timed r there))))

pub returns-clause-workers : goal.returns-clause-workers
returns-clause-workers c = c.in_ok-copy.ensures.copy.p

pub returns-clause-settled : goal.returns-clause-settled
returns-clause-settled c =
    let s = c.args.simulation.now in
    let rows : List Row = c.args.rows.now in
    let made = c.in_ok-copy.ensures in
    settled_fork rows c.args.changed.now s c.in_ok-copy.copy c.requires.settled
    (rw c.requires.changed (alike_edited rows c.args.row c.args.ticks s.starts.items s.tick c.requires.fits c.requires.less c.requires.ahead))
    (rw c.requires.changed (frontier_stays rows c.args.row c.args.ticks s.frontier c.requires.settled.giving.frontier))
    made.copy
    (rw made.first (rw c.deref.ensures.value at c.in_ok-first.ensures.children))
    (rw made.first (simp length-map (c.in_ok-first.ensures.whole ∙ ap length c.deref.ensures.value)))
    (rw made.first c.in_ok-first.ensures.timed)
    (rw made.next c.requires.next)
    (rw (made.queue, made.first) (rw (c.deref-2.ensures.value, c.deref-3.ensures.value, c.deref-4.ensures.value) at c.in_ok-queue.ensures))
