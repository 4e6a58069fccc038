use Rattle.boc_why.proofs.ShareKeys.{TotalsSoFar}
use Rattle.boc_why.proofs.shares.totals_of.Given as goal

-- the totals of the steps so far
abbrev pub invariant-loop-place : goal.invariant-loop-place
invariant-loop-place l = TotalsSoFar l.keys l.weights l.bound l.place l.ticks.items l.counts.items
