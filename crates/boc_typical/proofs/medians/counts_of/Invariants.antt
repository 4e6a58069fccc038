use Rattle.std.proofs.Common.{take}
use Rattle.boc_typical.specs.Taken.{AreCounts}
use Rattle.boc_typical.proofs.medians.counts_of.Given as goal

-- the defs so far
abbrev pub invariant-loop-def : goal.invariant-loop-def
invariant-loop-def l = AreCounts (take l.def-index l.defs) l.bound l.counts.items
