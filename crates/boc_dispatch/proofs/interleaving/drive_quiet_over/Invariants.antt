use Rattle.std.proofs.Common.{◌*◌, ◌-◌}
use Rattle.boc_program.specs.declared.limits.TheConstants.{MOST_ROWS}
use Rattle.boc_dispatch.proofs.Quieting.{GoesOn}
use Rattle.boc_dispatch.proofs.interleaving.drive_quiet_over.Given as goal

abbrev pub invariant-loop-mover : goal.invariant-loop-mover
invariant-loop-mover g l = GoesOn l.program l.workers l.choices l.core l.crew.items

-- how many steps more there may be
abbrev pub decreases-loop-mover : goal.decreases-loop-mover
decreases-loop-mover g l = 36 * MOST_ROWS - l.core.state.steps
