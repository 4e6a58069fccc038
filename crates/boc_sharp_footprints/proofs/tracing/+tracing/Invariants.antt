use Rattle.std.specs.Prelude.{◌+◌, ◌*◌}
use Rattle.boc_program.specs.Syntax.{Done, code_size}
use Rattle.boc_program.specs.memory.View.{code_of, before}
use Rattle.boc_sharp_footprints.proofs.tracing.+tracing.Given as goal

abbrev pub decreases-trace : goal.decreases-trace
decreases-trace l = 2 * code_size (code_of l.stmts.now) + 1

abbrev pub decreases-trace_one : goal.decreases-trace_one
decreases-trace_one l = 2 * code_size (before l.stmt.now Done)
