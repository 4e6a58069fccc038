use Rattle.std.specs.Prelude.{◌+◌, ◌*◌}
use Rattle.boc_program.specs.Syntax.{Done, code_size}
use Rattle.boc_program.specs.memory.View.{code_of, before}
use Rattle.boc_footprints.proofs.naming.+naming.Given as goal

abbrev pub decreases-stmts_name : goal.decreases-stmts_name
decreases-stmts_name l = 2 * code_size (code_of l.stmts.now) + 1

abbrev pub decreases-stmt_names : goal.decreases-stmt_names
decreases-stmt_names l = 2 * code_size (before l.stmt.now Done)
