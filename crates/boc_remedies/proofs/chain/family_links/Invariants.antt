use Rattle.std.proofs.Common.{◌≡◌, map, take}
use Rattle.boc_remedies.specs.Chains.{family_link}
use Rattle.boc_remedies.proofs.chain.family_links.Given as goal

-- the links so far
abbrev pub invariant-loop-link : goal.invariant-loop-link
invariant-loop-link l = l.all.items ≡ map (family_link l.families) (take l.link-index l.links)
