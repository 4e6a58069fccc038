use Rattle.boc_runs.proofs.Freeing.{rows_without}
use Rattle.boc_greedy.proofs.timed.TimedRows.without.Goals as goal

pub invariant_of-result : goal.invariant_of-result
invariant_of-result c = rows_without c.args.cown c.args.rows.now c.requires
