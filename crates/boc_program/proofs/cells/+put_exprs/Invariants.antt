use Rattle.std.specs.Prelude.{length}
use Rattle.boc_program.proofs.cells.+put_exprs.Given as goal

abbrev pub decreases-put_exprs : goal.decreases-put_exprs
decreases-put_exprs l = length l.exprs.now
