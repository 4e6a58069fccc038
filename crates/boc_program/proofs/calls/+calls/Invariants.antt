use Rattle.std.specs.Prelude.{◌+◌, ◌*◌}
use Rattle.boc_program.specs.Syntax.{Done, code_size}
use Rattle.boc_program.specs.memory.View.{code_of, before}
use Rattle.boc_program.proofs.calls.+calls.Given as goal

abbrev pub decreases-stmts_calls_fit : goal.decreases-stmts_calls_fit
decreases-stmts_calls_fit l = 2 * code_size (code_of l.stmts.now) + 1

abbrev pub decreases-stmt_calls_fit : goal.decreases-stmt_calls_fit
decreases-stmt_calls_fit l = 2 * code_size (before l.stmt.now Done)
