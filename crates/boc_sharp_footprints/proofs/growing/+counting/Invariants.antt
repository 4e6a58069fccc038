use Rattle.std.specs.Prelude.{◌+◌, ◌*◌}
use Rattle.boc_program.specs.Syntax.{Done, code_size}
use Rattle.boc_program.specs.memory.View.{code_of, before}
use Rattle.boc_sharp_footprints.proofs.growing.+counting.Given as goal

abbrev pub decreases-whens : goal.decreases-whens
decreases-whens l = 2 * code_size (code_of l.stmts.now) + 1

abbrev pub decreases-whens_of : goal.decreases-whens_of
decreases-whens_of l = 2 * code_size (before l.stmt.now Done)
