use Rattle.std.proofs.Common.{◌≡◌, map, take}
use Rattle.std.specs.List.{fold}
use Rattle.boc_many_runs.specs.Runs.{pushed}
use Rattle.boc_many_runs.proofs.columns.push_runs.Given as goal

-- the runs so far are appended
abbrev pub invariant-loop-less : goal.invariant-loop-less
invariant-loop-less l = l.columns ≡ fold pushed l.fn.columns (map (λ r. r.items) (take l.less-index l.runs))
