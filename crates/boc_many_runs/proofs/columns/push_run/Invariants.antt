use Rattle.std.proofs.Common.{◌≡◌, take}
use Rattle.boc_many_runs.specs.Runs.{pushed}
use Rattle.boc_many_runs.proofs.columns.push_run.Given as goal

-- the columns so far are longer
abbrev pub invariant-loop-place : goal.invariant-loop-place
invariant-loop-place l = l.columns ≡ pushed l.fn.columns (take l.place l.less)
