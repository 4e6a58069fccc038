use Rattle.boc_greedy_chain.proofs.Lowest.{LowestSoFar}
use Rattle.boc_greedy_chain.proofs.chain.lowest_ending.Given as goal

-- the lowest of the rows so far that ends at the tick
abbrev pub invariant-loop-row : goal.invariant-loop-row
invariant-loop-row l = LowestSoFar l.rows l.ends l.tick l.row-index l.found
