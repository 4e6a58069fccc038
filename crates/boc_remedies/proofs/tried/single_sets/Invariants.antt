use Rattle.std.proofs.Common.{◌≡◌, [], ◌∷◌, map, take}
use Rattle.boc_remedies.proofs.tried.single_sets.Given as goal

-- the families so far
abbrev pub invariant-loop-family : goal.invariant-loop-family
invariant-loop-family l = l.sets.items ≡ map (λ f. f ∷ []) (take l.family-index l.families)
