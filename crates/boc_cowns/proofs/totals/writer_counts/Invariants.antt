use Rattle.boc_order.specs.Least.{wrote_cown}
use Rattle.boc_cowns.specs.Hot.{one}
use Rattle.boc_cowns.specs.Columns.{AreSums}
use Rattle.boc_cowns.proofs.totals.writer_counts.Given as goal

-- the rows so far
abbrev pub invariant-loop-row : goal.invariant-loop-row
invariant-loop-row l = AreSums (wrote_cown l.rows) one l.row l.totals.items
