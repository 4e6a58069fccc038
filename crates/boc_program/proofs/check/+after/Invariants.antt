use Rattle.std.specs.Prelude.{◌+◌, ◌*◌}
use Rattle.boc_program.specs.Syntax.{Done, code_size}
use Rattle.boc_program.specs.memory.View.{code_of, before}
use Rattle.boc_program.proofs.check.+after.Given as goal

abbrev pub decreases-after_stmts : goal.decreases-after_stmts
decreases-after_stmts l = 2 * code_size (code_of l.stmts.now) + 1

abbrev pub decreases-after_stmt : goal.decreases-after_stmt
decreases-after_stmt l = 2 * code_size (before l.stmt.now Done)
