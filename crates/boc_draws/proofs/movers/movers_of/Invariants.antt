use Rattle.boc_draws.specs.Draws.{stands_at}
use Rattle.boc_draws.proofs.Moving.{AreBelow}
use Rattle.boc_draws.proofs.movers.movers_of.Given as goal

-- those of the workers below this one
abbrev pub invariant-loop-number : goal.invariant-loop-number
invariant-loop-number l = AreBelow l.core.program (stands_at l.core l.crew) l.number l.movers.items
