use Rattle.std.proofs.Common.{◌+◌, ◌*◌}
use Rattle.boc_program.specs.Syntax.{Done, code_size}
use Rattle.boc_program.specs.memory.View.{before, code_of}
use Rattle.boc_lines.proofs.sizes.+put.Given as goal

abbrev pub decreases-put_all : goal.decreases-put_all
decreases-put_all l = 8 * code_size (code_of l.stmts.now) + 2

abbrev pub decreases-put_repeated : goal.decreases-put_repeated
decreases-put_repeated l = 8 * code_size l.block.now + 4

abbrev pub decreases-put_either : goal.decreases-put_either
decreases-put_either l = 8 * code_size l.block.now + 8 * code_size l.other.now + 4

abbrev pub decreases-put_one : goal.decreases-put_one
decreases-put_one l = 8 * code_size (before l.stmt.now Done)
