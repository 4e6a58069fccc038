use Rattle.boc_greedy_chain.proofs.ByStart.{AreSoFar}
use Rattle.boc_greedy_chain.proofs.takes.predecessors.Given as goal

-- each worker has the row of its last turn so far, and the rows of the turns so far have their predecessors
abbrev pub invariant-loop-turn : goal.invariant-loop-turn
invariant-loop-turn l = AreSoFar l.starts l.workers l.p l.turn-items l.turn-index l.last.items l.before.items
