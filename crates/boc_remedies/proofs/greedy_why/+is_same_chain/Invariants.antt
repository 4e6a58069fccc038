use Rattle.std.proofs.Common.{length}
use Rattle.boc_remedies.proofs.greedy_why.+is_same_chain.Given as goal

-- how many steps are left
abbrev pub decreases-is_same_chain : goal.decreases-is_same_chain
decreases-is_same_chain l = length l.steps.now
