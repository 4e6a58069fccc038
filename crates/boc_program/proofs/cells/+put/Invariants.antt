use Rattle.std.specs.Prelude.{◌+◌, ◌*◌}
use Rattle.boc_program.specs.Syntax.{Done, code_size}
use Rattle.boc_program.specs.memory.View.{code_of, before}
use Rattle.boc_program.proofs.cells.+put.Given as goal

abbrev pub decreases-put_stmts : goal.decreases-put_stmts
decreases-put_stmts l = 2 * code_size (code_of l.stmts.now) + 1

abbrev pub decreases-put_stmt : goal.decreases-put_stmt
decreases-put_stmt l = 2 * code_size (before l.stmt.now Done)
