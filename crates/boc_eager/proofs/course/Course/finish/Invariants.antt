use Rattle.std.proofs.Common.{◌+◌, ◌-◌, ◌*◌}
use Rattle.boc_eager.specs.Courses.{IsKept, later}
use Rattle.boc_eager.proofs.course.Course.finish.Given as goal

-- no row is in hand
abbrev pub invariant-loop-row : goal.invariant-loop-row
invariant-loop-row l = IsKept l.rows l.self

-- the ticks that are left, and the rows
abbrev pub decreases-loop-row : goal.decreases-loop-row
decreases-loop-row l = (later - l.self.tick) * 65536 + (65536 - l.self.row)
