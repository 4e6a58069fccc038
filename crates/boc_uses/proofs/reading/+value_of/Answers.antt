use Rattle.std.proofs.Common.{sym, ap, ◌∙◌}
use Rattle.boc_program.specs.Syntax.{Binary}
use Rattle.boc_program.specs.memory.View.{slot_expr_of}
use Rattle.boc_uses.specs.Uses.{reads, slots_read}
use Rattle.boc_uses.specs.Noting.{noted_all}
use Rattle.boc_uses.proofs.Noted.{read_pair}
use Rattle.boc_uses.proofs.reading.+value_of.Goals as goal

pub returns-in_err-right-in-Binary-clause-uses : goal.returns-in_err-right-in-Binary-clause-uses
returns-in_err-right-in-Binary-clause-uses t c =
    let r = c.args.reading.now in
    let slots = c.args.slots.now in
    let uses = c.args.uses.now in
    let op = c.in-Binary.operator in
    let left = c.deref-in-Binary.result.now in
    let right = c.deref-in-Binary-2.result.now in
    read_pair r.params r.tick r.own uses c.value_of-in-Binary.new.uses c.value_of-in-Binary-2.new.uses op (slot_expr_of left) (slot_expr_of right) slots
    c.in_ok-left-in-Binary.left c.in_ok-left-in-Binary.ensures.value c.value_of-in-Binary.ensures.uses c.value_of-in-Binary-2.ensures.uses
    ∙ ap (λ e. noted_all r.params uses (reads r.tick r.own (slots_read (Binary op (slot_expr_of e) (slot_expr_of right)) slots))) c.deref-in-Binary.ensures
    ∙ ap (λ e. noted_all r.params uses (reads r.tick r.own (slots_read (Binary op (slot_expr_of c.in-Binary.left.value) (slot_expr_of e)) slots)))
    c.deref-in-Binary-2.ensures
    ∙ ap (λ e. noted_all r.params uses (reads r.tick r.own (slots_read (slot_expr_of e) slots))) (sym c.in-Binary.is)

pub returns-in_ok-right-in-Binary-clause-uses : goal.returns-in_ok-right-in-Binary-clause-uses
returns-in_ok-right-in-Binary-clause-uses t c =
    let r = c.args.reading.now in
    let slots = c.args.slots.now in
    let uses = c.args.uses.now in
    let op = c.in-Binary.operator in
    let left = c.deref-in-Binary.result.now in
    let right = c.deref-in-Binary-2.result.now in
    read_pair r.params r.tick r.own uses c.value_of-in-Binary.new.uses c.value_of-in-Binary-2.new.uses op (slot_expr_of left) (slot_expr_of right) slots
    c.in_ok-left-in-Binary.left c.in_ok-left-in-Binary.ensures.value c.value_of-in-Binary.ensures.uses c.value_of-in-Binary-2.ensures.uses
    ∙ ap (λ e. noted_all r.params uses (reads r.tick r.own (slots_read (Binary op (slot_expr_of e) (slot_expr_of right)) slots))) c.deref-in-Binary.ensures
    ∙ ap (λ e. noted_all r.params uses (reads r.tick r.own (slots_read (Binary op (slot_expr_of c.in-Binary.left.value) (slot_expr_of e)) slots)))
    c.deref-in-Binary-2.ensures
    ∙ ap (λ e. noted_all r.params uses (reads r.tick r.own (slots_read (slot_expr_of e) slots))) (sym c.in-Binary.is)
