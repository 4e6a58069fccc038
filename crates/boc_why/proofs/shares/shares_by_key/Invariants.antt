use Rattle.boc_why.proofs.ShareListing.{SharesBelow}
use Rattle.boc_why.proofs.shares.shares_by_key.Given as goal

-- the shares of the keys so far
abbrev pub invariant-loop-key : goal.invariant-loop-key
invariant-loop-key l = SharesBelow l.keys l.weights l.key l.shares.items
