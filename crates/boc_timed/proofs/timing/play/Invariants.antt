use Rattle.std.proofs.Common.{◌*◌, ◌-◌}
use Rattle.boc_program.specs.declared.limits.TheConstants.{MOST_ROWS}
use Rattle.boc_runs.specs.machine.Steps.{members}
use Rattle.boc_eval.specs.Instances.{AreRight}
use Rattle.boc_timed.specs.Timetables.{IsEven}
use Rattle.boc_timed.proofs.Playing.{PlaysOn}
use Rattle.boc_timed.proofs.timing.play.Given as goal

abbrev pub invariant-turns : goal.invariant-turns
invariant-turns g l =
    PlaysOn l.program l.workers l.core l.crew.items l.clocks l.timetable × AreRight (members l.core.program l.core.state) l.told.items
    × IsEven l.timetable

-- how many steps more there may be
abbrev pub decreases-turns : goal.decreases-turns
decreases-turns g l = 36 * MOST_ROWS - l.core.state.steps
