use Rattle.std.specs.Prelude.{length}
use Rattle.boc_program.proofs.check.+refs_fit.Given as goal

abbrev pub decreases-refs_fit : goal.decreases-refs_fit
decreases-refs_fit l = length l.references.now
