use Rattle.boc_cowns.specs.Hot.{wait_of, waits_over}
use Rattle.boc_cowns.specs.Columns.{AreSums}
use Rattle.boc_cowns.proofs.totals.waits_of.Given as goal

-- the rows so far
abbrev pub invariant-loop-row : goal.invariant-loop-row
invariant-loop-row l = AreSums (waits_over l.rows l.plan.after.items) (wait_of l.rows l.plan.starts.items) l.row l.totals.items
