use Rattle.std.proofs.Common.{◌∙◌, ap}
use Rattle.std.specs.Result.{result_ok}
use Rattle.boc_program.specs.Value.{value}
use Rattle.boc_program.specs.memory.View.{slot_expr_of}
use Rattle.boc_lines.proofs.Walking.{test_stops, test_goes}
use Rattle.boc_lines.proofs.walk.Walk.test.Goals as goal

pub returns-then-not-charge-clause-charges : goal.returns-then-not-charge-clause-charges
returns-then-not-charge-clause-charges c =
    test_stops c.args.k (slot_expr_of c.args.expr.now) c.args.self.now c.charge.new.self c.charge.result c.charge.ensures.charges c.if-not-charge.true

pub returns-clause-charges : goal.returns-clause-charges
returns-clause-charges c =
    test_goes c.args.k (slot_expr_of c.args.expr.now) c.args.self.now c.charge.new.self c.charge.result c.ok.result c.charge.ensures.charges
    c.if-not-charge.false
    (c.ok.ensures.value ∙ ap result_ok (c.value.ensures ∙ ap (value (slot_expr_of c.args.expr.now)) c.deref.ensures.value))
