use Rattle.std.proofs.Common.{◌≡◌, map, take}
use Rattle.boc_remedies.proofs.link_sets.link_sets.Given as goal

-- the families of the sets so far
abbrev pub invariant-loop-own : goal.invariant-loop-own
invariant-loop-own l = l.sets.items ≡ map (λ w. w.families) (take l.own-index l.own-items)
