use Rattle.std.proofs.Common.{◌≡◌, take}
use Rattle.boc_runs.specs.Changes.{without}
use Rattle.boc_runs.proofs.rows.Rows.without.Given as goal

-- the rows so far
abbrev pub invariant-loop-row : goal.invariant-loop-row
invariant-loop-row l = l.list.items ≡ without l.cown (take l.row-index l.row-items)
