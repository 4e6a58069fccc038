use Rattle.std.specs.Prelude.{◌+◌, ◌*◌}
use Rattle.boc_program.specs.Syntax.{Done, code_size}
use Rattle.boc_program.specs.memory.View.{code_of, before}
use Rattle.boc_reader.proofs.names.body.+slots.Given as goal

abbrev pub decreases-block_slots : goal.decreases-block_slots
decreases-block_slots l = 3 * code_size l.block.now + 2

abbrev pub decreases-stmts_slots : goal.decreases-stmts_slots
decreases-stmts_slots l = 3 * code_size (code_of l.stmts.now) + 1

abbrev pub decreases-stmt_slots : goal.decreases-stmt_slots
decreases-stmt_slots l = 3 * code_size (before l.stmt.now Done)
