use Rattle.boc_why.proofs.LinkSteps.{SayLinks}
use Rattle.boc_why.proofs.links.links_of.Given as goal

-- what leads on from the steps so far
abbrev pub invariant-loop-place : goal.invariant-loop-place
invariant-loop-place l = SayLinks l.rows l.defs l.steps l.place l.links.items
