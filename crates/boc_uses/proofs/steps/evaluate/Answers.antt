use Rattle.std.proofs.Common.{ap, sym, ◌∙◌, Ok, Err, ℤ, rules, w64}
use Rattle.std.specs.Int.RustNames.{FitsSigned}
use Rattle.std.proofs.lemmas.Int.{to_z-of_z}
use Rattle.boc_program.specs.memory.View.{slot_expr_of}
use Rattle.boc_uses.specs.Noting.{noted_all, standing}
use Rattle.boc_uses.proofs.Walked.{evaluated_noted}
use Rattle.boc_uses.proofs.steps.evaluate.Goals as goal

pub returns-in-Ok : goal.returns-in-Ok
returns-in-Ok c held go =
    let v : ℤ = c.in-Ok.value in
    let fits : FitsSigned w64 v = search rules in
    evaluated_noted c.args.params c.args.own (slot_expr_of c.args.expr.now) (standing held c.args.slots.now c.args.tick) c.args.uses.now c.value_of.new.uses
    (Ok v) go c.in-Ok.ensures.value c.in-Ok.ensures.uses
    ∙ ap (λ z. noted_all c.args.params c.value_of.new.uses (go z)) (sym (to_z-of_z w64 v fits))

pub returns-in-Err : goal.returns-in-Err
returns-in-Err c held go =
    evaluated_noted c.args.params c.args.own (slot_expr_of c.args.expr.now) (standing held c.args.slots.now c.args.tick) c.args.uses.now c.value_of.new.uses
    (Err c.in-Err.field-0) go c.in-Err.ensures.value c.in-Err.ensures.uses
