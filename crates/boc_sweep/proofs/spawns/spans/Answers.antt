use Rattle.std.proofs.Common.{◌≡◌, ℕ, ◌+◌, ◌<◌, length, refl, sym, subst, arith}
use Rattle.std.proofs.lemmas.List.{length_push}
use Rattle.boc_plans.specs.Edits.{IsEarlySpan}
use Rattle.boc_sweep.proofs.Spanning.{each_more}
use Rattle.boc_sweep.proofs.spawns.spans.Goals as goal

pub loop-row-preserved : goal.loop-row-preserved
loop-row-preserved c =
    let spans = c.loop-row.spans.items in
    let row : ℕ = c.loop-row.row in
    let place : length spans + 1 ≡ row = c.loop-row.invariant.whole in
    let there : row < length c.args.rows.now = omega (arith, c.loop-row-test.true, c.len-row-end.ensures.count) in
    let child : 0 < row = omega (arith, place) in
    let here : IsEarlySpan c.args.rows.now (length spans + 1) c.span_of.result =
    subst (λ (r : ℕ). IsEarlySpan c.args.rows.now r c.span_of.result) (sym place) (c.requires.parts.at row c.span_of.result there c.span_of.ensures child) in
    record {
      whole = rw c.push_reserved.ensures.items (omega (arith, length_push spans c.span_of.result, place));
      low = omega (arith, c.loop-row-test.true, c.len-row-end.ensures.count);
      room = omega (arith, c.push_reserved.ensures.capacity, c.loop-row.invariant.room);
      at = rw (c.push_reserved.ensures.items, length_push spans c.span_of.result)
          (each_more (λ (place span : ℕ). IsEarlySpan c.args.rows.now (place + 1) span) (length spans) spans c.span_of.result refl here
          c.loop-row.invariant.at);
    }
