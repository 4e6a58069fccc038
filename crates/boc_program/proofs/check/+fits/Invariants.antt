use Rattle.std.specs.Prelude.{◌+◌, ◌*◌}
use Rattle.boc_program.specs.Syntax.{Done, code_size}
use Rattle.boc_program.specs.memory.View.{code_of, before}
use Rattle.boc_program.proofs.check.+fits.Given as goal

abbrev pub decreases-stmts_fit : goal.decreases-stmts_fit
decreases-stmts_fit l = 2 * code_size (code_of l.stmts.now) + 1

abbrev pub decreases-stmt_fits : goal.decreases-stmt_fits
decreases-stmt_fits l = 2 * code_size (before l.stmt.now Done)
