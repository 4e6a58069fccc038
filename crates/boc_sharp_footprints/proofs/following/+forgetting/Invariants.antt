use Rattle.std.specs.Prelude.{◌+◌, ◌*◌}
use Rattle.boc_program.specs.Syntax.{Done, code_size}
use Rattle.boc_program.specs.memory.View.{code_of, before}
use Rattle.boc_sharp_footprints.proofs.following.+forgetting.Given as goal

abbrev pub decreases-forget : goal.decreases-forget
decreases-forget l = 2 * code_size (code_of l.stmts.now) + 1

abbrev pub decreases-forget_one : goal.decreases-forget_one
decreases-forget_one l = 2 * code_size (before l.stmt.now Done)
