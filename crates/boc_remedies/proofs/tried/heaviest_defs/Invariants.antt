use Rattle.std.proofs.Common.{◌≡◌, map, take}
use Rattle.boc_remedies.specs.Chains.{known}
use Rattle.boc_remedies.specs.Tried.{defs_of_all, heaviest_of}
use Rattle.boc_remedies.proofs.tried.heaviest_defs.Given as goal

-- the defs of the chains so far
abbrev pub invariant-loop-route : goal.invariant-loop-route
invariant-loop-route l = l.defs.items ≡ defs_of_all heaviest_of (map known (take l.route-index l.routes))
