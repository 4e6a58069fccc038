use Rattle.std.proofs.Common.{◌≡◌, take}
use Rattle.boc_runs.proofs.rows.Rows.copy.Given as goal

-- the rows so far
abbrev pub invariant-loop-row : goal.invariant-loop-row
invariant-loop-row l = l.list.items ≡ take l.row-index l.row-items
