use Rattle.std.proofs.Common.{ap, ◌∙◌}
use Rattle.boc_program.specs.memory.View.{slot_expr_of}
use Rattle.boc_uses.specs.Uses.{evaluated}
use Rattle.boc_uses.specs.Noting.{noted_then, standing}
use Rattle.boc_uses.proofs.Walked.{charged}
use Rattle.boc_uses.proofs.steps.begin.Goals as goal

pub returns-clause-used : goal.returns-clause-used
returns-clause-used c held go =
    let e = slot_expr_of c.args.expr.now in
    let slots = c.args.slots.now in
    let ticks = c.charge.new.ticks in
    charged c.args.params 1 c.args.uses.now held slots c.args.ticks.now ticks (λ s. evaluated c.args.own e s (λ v. go v s)) c.charge.result
    c.charge.ensures.counts c.charge.ensures.ticks
    ∙ ap (λ b. noted_then b c.args.params c.args.uses.now (evaluated c.args.own e (standing held slots ticks) (λ v. go v (standing held slots ticks))))
    c.if-not-charge.false
    ∙ c.evaluate.ensures held (λ v. go v (standing held slots ticks))
