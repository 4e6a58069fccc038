use Rattle.std.proofs.Common.{ap, arith}
use Rattle.std.specs.Prelude.{slice_index}
use Rattle.std.proofs.lemmas.Option.{slice_get-get_or}
use Rattle.boc_used_greedy.specs.declared.fronts.Front.{Front}
use Rattle.boc_used_greedy.proofs.Ending.{end_more, with_more}
use Rattle.boc_used_greedy.proofs.plan.Plan.end.Goals as goal

pub loop-row-preserved : goal.loop-row-preserved
loop-row-preserved c = end_more c.args.rows.now c.args.self.now.starts.items c.loop-row.row c.loop-row.end _ _ c.loop-row.invariant
    (omega (arith, c.from.ensures, c.ticks.ensures, ap (λ l. slice_index l c.loop-row.row) c.deref-start-items.ensures.value)) c.max-end.ensures

pub loop-front-preserved : goal.loop-front-preserved
loop-front-preserved c =
    let f = c.requires.finished.1 in
    let fronts = c.args.self.now.fronts.items in
    let d : Front = record { at = 0; told = 0; held = 0; wrote = 0 } in
    let is = rw c.deref-front-items.ensures.value at c.max-end-in-loop-front.ensures in
    let there = rw c.deref-front-items.ensures.value at c.loop-front-test.true in
    with_more c.args.rows.now c.args.holds.now.all.items c.args.self.now.starts.items f.low fronts f.fronts c.loop-front.front-index c.loop-front.end _ _
    (slice_get-get_or fronts c.loop-front.front-index d there) c.loop-front.invariant is
