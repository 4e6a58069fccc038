use Rattle.boc_program.specs.memory.View.{cown_ref_of}
use Rattle.boc_sharp_footprints.specs.Known.{range_of}
use Rattle.boc_sharp_footprints.proofs.Marking.{mark_named}
use Rattle.boc_sharp_footprints.proofs.referring.mark_reference.Goals as goal

pub returns-in-Some : goal.returns-in-Some
returns-in-Some c c' =
    mark_named c.args.marks.now c.mark_range.new.marks (record { first = c.in-Some.range.first; size = c.in-Some.range.size })
    (range_of c.args.slots.now (cown_ref_of c.args.reference.now)) c' c.in-Some.ensures c.mark_range.ensures
