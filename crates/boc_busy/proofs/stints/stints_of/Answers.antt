use Rattle.std.proofs.Common.{ap, length, refl, arith}
use Rattle.std.specs.Prelude.{slice_index}
use Rattle.std.proofs.lemmas.List.{length_push}
use Rattle.boc_busy.specs.declared.stints.Stint.{Stint}
use Rattle.boc_busy.proofs.InLine.{stints_more}
use Rattle.boc_busy.proofs.stints.stints_of.Goals as goal

pub loop-row-preserved : goal.loop-row-preserved
loop-row-preserved c =
    let i = c.loop-row.invariant in
    let r = c.loop-row.row in
    let own : Stint = record {
      worker = slice_index c.args.workers.now r;
      start = slice_index c.args.starts.now r;
      end = slice_index c.args.ends.now r;
      row = r;
    } in
    record {
      room = omega (arith, i.room, c.push_reserved.ensures.capacity);
      whole = omega (arith, ap length c.push_reserved.ensures.items, length_push c.loop-row.stints.items own, i.whole);
      at = rw c.push_reserved.ensures.items (stints_more c.args.starts.now c.args.ends.now c.args.workers.now c.loop-row.stints.items own r i.whole i.at
          (record { row_is = refl; worker_is = refl; start_is = refl; end_is = refl }));
    }
