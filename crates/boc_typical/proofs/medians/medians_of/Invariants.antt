use Rattle.boc_typical.proofs.SeenMedians.{MediansSoFar}
use Rattle.boc_typical.proofs.medians.medians_of.Given as goal

-- the medians of the defs of which as many were seen
abbrev pub invariant-loop-own : goal.invariant-loop-own
invariant-loop-own l = MediansSoFar l.all l.counts l.own-index l.seen.items l.medians.items
