use Rattle.std.proofs.Common.{arith}
use Rattle.boc_eager.proofs.Raising.{writes_as_number}
use Rattle.boc_eager.proofs.steps.wait_of.Goals as goal

pub returns : goal.returns
returns c =
    let w = writes_as_number c.args.rows.now c.args.row c.args.cown c.from-2.result c.writes.result c.writes.ensures c.from-2.ensures in
    omega (arith, w, c.from.ensures)
