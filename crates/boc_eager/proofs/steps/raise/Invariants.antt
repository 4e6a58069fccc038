use Rattle.boc_eager.specs.Courses.{AreRaised}
use Rattle.boc_eager.proofs.steps.raise.Given as goal

-- what waits at the cowns so far is free no sooner
abbrev pub invariant-loop-cown : goal.invariant-loop-cown
invariant-loop-cown l = AreRaised l.rows l.row l.end l.cown-index l.fn.free l.free
