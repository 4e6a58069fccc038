use Rattle.std.proofs.Common.{◌≡◌, [], replicate}
use Rattle.boc_many_runs.proofs.columns.empty_columns.Given as goal

-- the columns so far
abbrev pub invariant-loop : goal.invariant-loop
invariant-loop l = l.columns.items ≡ replicate l.counter []
