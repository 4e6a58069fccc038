use Rattle.boc_why.proofs.ShareKeys.{HaveDefs}
use Rattle.boc_why.proofs.shares.defs_of.Given as goal

-- the defs of the steps so far
abbrev pub invariant-loop-step : goal.invariant-loop-step
invariant-loop-step l = HaveDefs l.defs l.steps l.step-index l.keys.items
