use Rattle.std.proofs.Common.{◌≡◌, length, List, ℕ, ap, subst, arith}
use Rattle.std.specs.Prelude.{slice_index}
use Rattle.boc_runs.specs.Changes.{without}
use Rattle.boc_plans.specs.Greedy.{IsSpan}
use Rattle.boc_sweep.specs.Freed.{in_lane}
use Rattle.boc_sweep.proofs.Freeing.{span_is}
use Rattle.boc_sweep.proofs.freed.spans_without.Goals as goal

pub returns : goal.returns
returns c = λ lane low.
    let rows = c.args.rows.now in
    let all : c.loop-row.row ≡ length rows = omega (arith, c.loop-row-test.false, c.loop-row.auto.row-end, c.len-row-end.ensures.count) in
    let p = (rw all at c.loop-row.invariant.placed).in_lanes lane low in
    let cown : ℕ = slice_index c.loop-row.placing.cowns lane in
    let span : IsSpan (without cown rows) (slice_index c.loop-row.placing.latest lane) =
    span_is cown rows c.requires.shape (in_lane lane c.loop-row.placing.starts.items) p.placed (slice_index c.loop-row.placing.latest lane) p.latest_is in
    subst (λ (k : ℕ). IsSpan (without k rows) (slice_index c.loop-row.placing.latest lane)) (ap (λ (l : List ℕ). slice_index l lane) c.loop-row.invariant.own)
    span
