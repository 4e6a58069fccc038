use Rattle.boc_compare.proofs.DefTotals.{CountsSoFar}
use Rattle.boc_compare.proofs.defs.counts_of.Given as goal

-- the defs so far
abbrev pub invariant-loop-def : goal.invariant-loop-def
invariant-loop-def l = CountsSoFar l.defs l.def-index l.counts.items
