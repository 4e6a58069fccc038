use Rattle.std.proofs.Common.{◌-◌, ap, sym, ◌∙◌, length, map, take, drop}
use Rattle.boc_program.specs.memory.View.{slot_expr_of}
use Rattle.boc_uses.specs.Uses.{all_slots_read, reads}
use Rattle.boc_uses.specs.Noting.{noted_all}
use Rattle.boc_uses.proofs.Noted.{read_first, split_first}
use Rattle.boc_uses.proofs.reading.+value_all.Goals as goal

pub returns-in-Ok-clause-uses : goal.returns-in-Ok-clause-uses
returns-in-Ok-clause-uses t c =
    let r = c.args.reading.now in
    let slots = c.args.slots.now in
    let exprs = c.args.exprs.now in
    let first = c.first-item.result in
    read_first r.params r.tick r.own c.args.uses.now c.value_of.new.uses c.value_all.new.uses (slot_expr_of first)
    (map slot_expr_of (take (length exprs - 1) (drop 1 exprs))) slots c.in-Ok.field-0 c.in-Ok.ensures.value c.value_of.ensures.uses c.value_all.ensures.uses
    ∙ ap (λ es. noted_all r.params c.args.uses.now (reads r.tick r.own (all_slots_read (map slot_expr_of es) slots)))
    (sym (split_first exprs first c.in-len1-up.len_at_least c.first-item.is))
