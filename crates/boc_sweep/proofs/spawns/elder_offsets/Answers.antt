use Rattle.std.proofs.Common.{◌≡◌, ℕ, ◌<◌, length, ap, ◌∙◌, arith}
use Rattle.std.specs.Prelude.{slice_index}
use Rattle.std.proofs.lemmas.List.{get_or_read, length-set, length_push}
use Rattle.boc_runs.specs.Rows.{IsLast, parent_of}
use Rattle.boc_plans.proofs.Children.{rows_fit, parent_there, last_more}
use Rattle.boc_sweep.proofs.Spanning.{each_more}
use Rattle.boc_sweep.proofs.spawns.elder_offsets.Goals as goal

pub loop-row-preserved : goal.loop-row-preserved
loop-row-preserved c =
    let rows = c.args.rows.now in
    let n : ℕ = c.loop-row.row in
    let there : n < length rows = omega (arith, c.loop-row-test.true, c.len-row-end.ensures.count) in
    let fit = rows_fit rows c.requires n there in
    let inside : parent_of rows n < length c.loop-row.lasts.items = omega (arith, parent_there rows n fit there, c.loop-row.invariant.lasts_whole) in
    let read : c.index.result.now ≡ slice_index c.loop-row.lasts.items (parent_of rows n) =
    get_or_read c.loop-row.lasts.items c.parent-parent.result c.index.result.now (omega (arith, c.parent-parent.ensures, inside)) c.index.ensures 0
    ∙ ap (slice_index c.loop-row.lasts.items) c.parent-parent.ensures in
    record {
      lasts_whole = omega (arith, length-set {A = ℕ}, c.loop-row.invariant.lasts_whole);
      last = rw (c.parent-parent.ensures, c.offset.ensures) (last_more rows n c.loop-row.lasts.items fit inside c.loop-row.invariant.last);
      whole = rw c.push_reserved.ensures.items (omega (arith, length_push c.loop-row.elders.items c.index.result.now, c.loop-row.invariant.whole));
      room = omega (arith, c.push_reserved.ensures.capacity, c.loop-row.invariant.room);
      at = rw c.push_reserved.ensures.items (each_more (λ (r elder : ℕ). IsLast rows r (parent_of rows r) elder) n c.loop-row.elders.items
          c.index.result.now c.loop-row.invariant.whole (rw read (c.loop-row.invariant.last (parent_of rows n))) c.loop-row.invariant.at);
    }
