use Rattle.std.proofs.Common.{◌≡◌, map, take}
use Rattle.boc_remedies.proofs.tried.keys_of.Given as goal

-- the keys so far
abbrev pub invariant-loop-share : goal.invariant-loop-share
invariant-loop-share l = l.keys.items ≡ map (λ s. s.key) (take l.share-index l.shares)
