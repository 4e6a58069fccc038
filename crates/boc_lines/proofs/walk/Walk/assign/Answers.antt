use Rattle.boc_program.specs.memory.View.{slot_expr_of}
use Rattle.boc_lines.proofs.Walking.{assign_stops, assign_goes}
use Rattle.boc_lines.proofs.walk.Walk.assign.Goals as goal

pub returns-in-None-clause-charges : goal.returns-in-None-clause-charges
returns-in-None-clause-charges c =
    assign_stops c.args.slot (slot_expr_of c.args.expr.now) c.args.k c.args.self.now c.test-found.new.self c.test-found.result c.test-found.ensures.charges
    c.in-None.is

pub returns-in-Some-clause-charges : goal.returns-in-Some-clause-charges
returns-in-Some-clause-charges c =
    assign_goes c.args.slot (slot_expr_of c.args.expr.now) c.args.k c.args.self.now c.test-found.new.self c.set.new.self c.test-found.result
    c.in-Some.number c.test-found.ensures.charges c.in-Some.is c.set.ensures.state c.set.ensures.book
