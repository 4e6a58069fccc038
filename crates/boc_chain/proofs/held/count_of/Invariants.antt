use Rattle.std.proofs.Common.{◌≡◌, ◌≤◌, take}
use Rattle.boc_chain.specs.Chain.{times}
use Rattle.boc_chain.proofs.held.count_of.Given as goal

-- what was passed is counted
abbrev pub invariant-loop-cown : goal.invariant-loop-cown
invariant-loop-cown l = (l.count ≡ times l.c (take l.cown-index l.cowns)) × (l.count ≤ l.cown-index)
