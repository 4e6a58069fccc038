use Rattle.std.proofs.Common.{◌≡◌, take}
use Rattle.boc_remedies.proofs.chain.held.Given as goal

-- the families so far
abbrev pub invariant-loop-family : goal.invariant-loop-family
invariant-loop-family l = l.cowns.items ≡ take l.family-index l.families
