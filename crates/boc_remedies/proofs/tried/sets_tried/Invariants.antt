use Rattle.std.proofs.Common.{◌≡◌, [], ◌∷◌, map, take}
use Rattle.std.specs.Prelude.{flat_map}
use Rattle.std.specs.List.{fold}
use Rattle.boc_remedies.specs.Chains.{known}
use Rattle.boc_remedies.specs.Tried.{added_set, handed_families, several_of}
use Rattle.boc_remedies.proofs.tried.sets_tried.Given as goal

-- the families, and the sets of the chains so far
abbrev pub invariant-loop-route : goal.invariant-loop-route
invariant-loop-route l = l.sets.items ≡
    fold added_set (map (λ f. f ∷ []) (handed_families l.families (map known l.routes))) (flat_map (several_of l.families) (map known (take l.route-index l.routes)))
