use Rattle.std.specs.Prelude.{length}
use Rattle.boc_program.proofs.check.+exprs_fit.Given as goal

abbrev pub decreases-exprs_fit : goal.decreases-exprs_fit
decreases-exprs_fit l = length l.exprs.now
