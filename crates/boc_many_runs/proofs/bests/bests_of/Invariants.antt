use Rattle.std.proofs.Common.{◌≡◌}
use Rattle.boc_many_runs.specs.Lines.{bests}
use Rattle.boc_many_runs.proofs.bests.bests_of.Given as goal

-- the best of each run so far
abbrev pub invariant-loop-number : goal.invariant-loop-number
invariant-loop-number l = l.all.items ≡ bests l.remedies l.columns l.number
