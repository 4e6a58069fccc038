use Rattle.std.proofs.Common.{arith}
use Rattle.boc_runs.proofs.Freeing.{all_without}
use Rattle.boc_runs.proofs.rows.Rows.without.Goals as goal

pub invariant_of-result : goal.invariant_of-result
invariant_of-result c = all_without c.args.cown c.self.inside.list.items c.self.invariant _ _ _ c.deref-row-items.ensures.value
    (omega (arith, c.loop-row-test.false)) c.loop-row.invariant
