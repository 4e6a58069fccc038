use Rattle.std.specs.Prelude.{length}
use Rattle.boc_program.proofs.check.+after_exprs.Given as goal

abbrev pub decreases-after_exprs : goal.decreases-after_exprs
decreases-after_exprs l = length l.exprs.now
