use Rattle.std.specs.Prelude.{◌+◌, ◌*◌}
use Rattle.boc_program.specs.Syntax.{Done, code_size}
use Rattle.boc_program.specs.memory.View.{code_of, before}
use Rattle.boc_footprints.proofs.naming.+spawning.Given as goal

abbrev pub decreases-stmts_spawn : goal.decreases-stmts_spawn
decreases-stmts_spawn l = 2 * code_size (code_of l.stmts.now) + 1

abbrev pub decreases-stmt_spawns : goal.decreases-stmt_spawns
decreases-stmt_spawns l = 2 * code_size (before l.stmt.now Done)
