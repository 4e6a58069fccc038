use Rattle.std.proofs.Common.{◌+◌, ◌*◌}
use Rattle.boc_program.specs.Syntax.{Done, code_size}
use Rattle.boc_program.specs.memory.View.{before, code_of}
use Rattle.boc_lines.proofs.numbers.+size.Given as goal

abbrev pub decreases-size_of : goal.decreases-size_of
decreases-size_of l = 2 * code_size (code_of l.stmts.now) + 1

abbrev pub decreases-size_of_one : goal.decreases-size_of_one
decreases-size_of_one l = 2 * code_size (before l.stmt.now Done)
