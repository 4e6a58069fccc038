use Rattle.boc_remedies.proofs.GreedySteps.{SayGreedyLinks}
use Rattle.boc_remedies.proofs.greedy_why.greedy_links.Given as goal

-- what leads on from the steps so far
abbrev pub invariant-loop-place : goal.invariant-loop-place
invariant-loop-place l = SayGreedyLinks l.rows l.defs l.steps l.place l.links.items
