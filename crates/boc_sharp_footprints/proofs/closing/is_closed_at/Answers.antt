use Rattle.boc_sharp_footprints.proofs.Marking.{closed_at}
use Rattle.boc_sharp_footprints.proofs.closing.is_closed_at.Goals as goal

pub returns : goal.returns
returns c =
    closed_at c.args.table.now c.args.body.now c.args.place c.args.value c.args.set.now c.in_ok-marks.marks.items c.deref.result.now c.min-cowns.result
    c.holds_all.result c.holds_all.ensures c.deref.ensures.value c.in_ok-marks.ensures
