use Rattle.boc_turns.specs.Course.{HasCourse, marked}
use Rattle.boc_turns.proofs.used.used_end.Given as goal

-- the rows so far are placed
abbrev pub invariant-loop-row : goal.invariant-loop-row
invariant-loop-row l = HasCourse l.rows l.uses (marked l.marks.items) l.row l.course
