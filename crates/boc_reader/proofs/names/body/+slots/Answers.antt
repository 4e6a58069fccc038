use Rattle.boc_reader.proofs.ResolvingSlots.{slots_of_if, slots_of_repeat, slots_of_more}
use Rattle.boc_reader.proofs.names.body.+slots.Goals as goal

pub stmt_slots-returns-in-If : goal.stmt_slots-returns-in-If
stmt_slots-returns-in-If t c =
    slots_of_if c.args.least c.args.stmt.now c.in-If.field-0 c.in-If.first c.in-If.second _ _ _ c.in-If.is c.block_slots.ensures c.block_slots-in-If.ensures
    c.max-in-If.ensures

pub stmt_slots-returns-in-Repeat : goal.stmt_slots-returns-in-Repeat
stmt_slots-returns-in-Repeat t c =
    slots_of_repeat c.args.least c.args.stmt.now c.in-Repeat.field-0 c.in-Repeat.block _ c.in-Repeat.is c.block_slots-in-Repeat.ensures

pub stmts_slots-returns-in-len1-up : goal.stmts_slots-returns-in-len1-up
stmts_slots-returns-in-len1-up t c =
    slots_of_more c.args.least c.args.stmts.now c.first-item.result _ _ _ c.in-len1-up.len_at_least c.first-item.is c.stmt_slots.ensures c.stmts_slots.ensures
    c.max.ensures
