use Rattle.std.specs.Prelude.{◌+◌, ◌*◌}
use Rattle.boc_program.specs.Syntax.{Done, code_size}
use Rattle.boc_program.specs.memory.View.{code_of, before}
use Rattle.boc_sharp_footprints.proofs.following.+following.Given as goal

abbrev pub decreases-follow : goal.decreases-follow
decreases-follow l = 3 * code_size (code_of l.stmts.now) + 1

abbrev pub decreases-follow_block : goal.decreases-follow_block
decreases-follow_block l = 3 * code_size l.block.now + 2

abbrev pub decreases-follow_one : goal.decreases-follow_one
decreases-follow_one l = 3 * code_size (before l.stmt.now Done)
