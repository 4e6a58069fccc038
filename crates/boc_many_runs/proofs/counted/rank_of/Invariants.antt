use Rattle.std.proofs.Common.{nat_lt}
use Rattle.boc_remedies.proofs.InOrder.{IsLeft}
use Rattle.boc_many_runs.proofs.counted.rank_of.Given as goal

-- none so far is tried in fewer runs
abbrev pub invariant-loop-place : goal.invariant-loop-place
invariant-loop-place l = IsLeft (λ c. nat_lt c.runs l.own.runs) l.best l.place
