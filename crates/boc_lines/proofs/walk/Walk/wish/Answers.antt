use Rattle.std.proofs.Common.{map}
use Rattle.boc_program.specs.memory.View.{cown_ref_of, slot_expr_of}
use Rattle.boc_lines.proofs.Walking.{wish_goes}
use Rattle.boc_lines.proofs.walk.Walk.wish.Goals as goal

pub returns-clause-charges : goal.returns-clause-charges
returns-clause-charges c kind =
    wish_goes kind (map slot_expr_of c.args.args.now) (map cown_ref_of c.args.references.now) c.args.k c.args.self.now c.charge.new.self c.charge.result
    c.can_wish.result c.charge.ensures.charges c.if-not-charge.false c.can_wish.ensures
