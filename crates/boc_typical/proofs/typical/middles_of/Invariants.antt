use Rattle.std.proofs.Common.{take}
use Rattle.boc_typical.specs.Spread.{AreMiddlesBy}
use Rattle.boc_typical.proofs.typical.middles_of.Given as goal

-- the defs so far
abbrev pub invariant-loop-def : goal.invariant-loop-def
invariant-loop-def l = AreMiddlesBy (take l.def-index l.defs) l.typical l.middles.items
