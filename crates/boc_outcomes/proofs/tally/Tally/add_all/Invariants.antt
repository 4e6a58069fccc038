use Rattle.boc_outcomes.proofs.Tallying.{HasAdded}
use Rattle.boc_outcomes.proofs.tally.Tally.add_all.Given as goal

-- the samples so far
abbrev pub invariant-loop-place : goal.invariant-loop-place
invariant-loop-place l = HasAdded l.asked.seed l.from l.all l.fn.self l.place l.self
