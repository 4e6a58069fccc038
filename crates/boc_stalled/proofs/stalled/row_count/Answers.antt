use Rattle.std.proofs.Common.{◌≤◌, length, arith}
use Rattle.boc_rules.proofs.Judging.{well_rows}
use Rattle.boc_stalled.proofs.stalled.row_count.Goals as goal

pub overflow_cast-result : goal.overflow_cast-result
overflow_cast-result c =
    let few : length c.args.run.now.rows ≤ 65535 = (well_rows c.args.run.now.cowns c.args.run.now.rows c.cowns-cowns.ensures.legal).few in
    omega (arith, few, c.count.ensures)
