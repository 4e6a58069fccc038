use Rattle.std.proofs.Common.{◌≡◌, map, take}
use Rattle.boc_remedies.specs.Chains.{known}
use Rattle.boc_remedies.specs.Tried.{handed_families}
use Rattle.boc_remedies.proofs.tried.handed_families.Given as goal

-- the families that the chains so far hand on
abbrev pub invariant-loop-route : goal.invariant-loop-route
invariant-loop-route l = l.set ≡ handed_families l.families (map known (take l.route-index l.routes))
