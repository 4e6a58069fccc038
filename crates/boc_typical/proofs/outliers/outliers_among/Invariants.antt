use Rattle.boc_typical.proofs.LongRows.{OutliersSoFar}
use Rattle.boc_typical.proofs.outliers.outliers_among.Given as goal

-- the rows so far
abbrev pub invariant-loop-place : goal.invariant-loop-place
invariant-loop-place l = OutliersSoFar l.typical l.rows l.defs l.place l.found
