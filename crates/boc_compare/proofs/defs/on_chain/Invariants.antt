use Rattle.boc_compare.proofs.ShareTables.{SharesSoFar}
use Rattle.boc_compare.proofs.defs.on_chain.Given as goal

-- the shares so far are in the table
abbrev pub invariant-loop-share : goal.invariant-loop-share
invariant-loop-share l = SharesSoFar l.by_def l.share-index l.ticks.items
