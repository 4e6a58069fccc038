use Rattle.std.proofs.Common.{◌≡◌, map, take, drop, ◌++◌}
use Rattle.boc_chain.specs.Chain.{flag_one}
use Rattle.boc_chain.proofs.requests.mark_flagged.Given as goal

-- what was passed is marked, and the rest is as it was
abbrev pub invariant-loop-request : goal.invariant-loop-request
invariant-loop-request l = l.requests ≡ map (flag_one l.slot) (take l.request-index l.initial.requests) ++ drop l.request-index l.initial.requests
