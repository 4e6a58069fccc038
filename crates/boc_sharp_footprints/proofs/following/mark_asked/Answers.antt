use Rattle.std.proofs.Common.{map}
use Rattle.boc_program.specs.memory.View.{cown_ref_of, slot_expr_of}
use Rattle.boc_sharp_footprints.proofs.Marking.{mark_asked}
use Rattle.boc_sharp_footprints.proofs.following.mark_asked.Goals as goal

pub returns-then-all_may_lead : goal.returns-then-all_may_lead
returns-then-all_may_lead c c' =
    mark_asked c.args.table.now c.args.kind (map slot_expr_of c.args.args.now) (map cown_ref_of c.args.references.now) c.args.slots.now c.args.marks.now
    c.mark_references.new.marks c.mark_reached.new.marks c.all_may_lead.result c.place.result c.known_argument.result c' c.all_may_lead.ensures
    c.if-all_may_lead.true c.mark_references.ensures c.place.ensures c.known_argument.ensures c.mark_reached.ensures
