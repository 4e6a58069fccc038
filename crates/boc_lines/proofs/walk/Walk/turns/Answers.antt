use Rattle.std.proofs.Common.{◌∙◌, ap}
use Rattle.std.specs.Result.{result_ok}
use Rattle.boc_program.specs.Value.{then_value, value}
use Rattle.boc_program.specs.Meaning.{as_count}
use Rattle.boc_program.specs.memory.View.{slot_expr_of}
use Rattle.boc_lines.proofs.Walking.{count_stops, count_goes}
use Rattle.boc_lines.proofs.walk.Walk.turns.Goals as goal

pub returns-then-not-charge-clause-charges : goal.returns-then-not-charge-clause-charges
returns-then-not-charge-clause-charges c =
    count_stops c.args.k (slot_expr_of c.args.expr.now) c.args.self.now c.charge.new.self c.charge.result c.charge.ensures.charges c.if-not-charge.true

pub returns-clause-charges : goal.returns-clause-charges
returns-clause-charges c =
    count_goes c.args.k (slot_expr_of c.args.expr.now) c.args.self.now c.charge.new.self c.charge.result c.ok.result c.charge.ensures.charges
    c.if-not-charge.false
    (c.ok.ensures.value ∙ ap result_ok (c.count.ensures ∙ ap (λ slots. then_value (value (slot_expr_of c.args.expr.now) slots) as_count) c.deref.ensures.value))
