use Rattle.std.specs.Prelude.{length}
use Rattle.boc_program.proofs.same.+same_bodies.Given as goal

abbrev pub decreases-same_bodies : goal.decreases-same_bodies
decreases-same_bodies l = length l.a.now
