use Rattle.std.proofs.Common.{◌≡◌, take}
use Rattle.std.specs.List.{sum_by}
use Rattle.boc_chain.specs.Kept.{awaits}
use Rattle.boc_chain.proofs.held.count_awaited.Given as goal

-- what was passed is counted
abbrev pub invariant-loop-held : goal.invariant-loop-held
invariant-loop-held l = l.count ≡ sum_by (awaits l.c) (take l.held-index l.places)
