use Rattle.boc_cowns.specs.Hot.{has_cown, one}
use Rattle.boc_cowns.specs.Columns.{AreSums}
use Rattle.boc_cowns.proofs.totals.row_counts.Given as goal

-- the rows so far
abbrev pub invariant-loop-row : goal.invariant-loop-row
invariant-loop-row l = AreSums (has_cown l.rows) one l.row l.totals.items
