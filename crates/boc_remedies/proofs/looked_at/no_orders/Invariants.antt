use Rattle.std.proofs.Common.{◌≡◌, map, take}
use Rattle.boc_remedies.specs.declared.remedy.Remedy.TheVariants.{NoOrder}
use Rattle.boc_remedies.proofs.looked_at.no_orders.Given as goal

-- the sets so far
abbrev pub invariant-loop-set : goal.invariant-loop-set
invariant-loop-set l = l.remedies.items ≡ map NoOrder (take l.set-index l.sets)
