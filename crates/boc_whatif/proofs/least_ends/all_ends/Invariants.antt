use Rattle.std.proofs.Common.{◌≤◌, ◌-◌, length}
use Rattle.boc_plans.specs.Seen.{seen}
use Rattle.boc_greedy.specs.Courses.{IsCourse}
use Rattle.boc_whatif.specs.Pieces.{AreEnds}
use Rattle.boc_whatif.proofs.least_ends.all_ends.Given as goal

-- the ends for the rows that are done, and a course of the rows as they are
abbrev pub invariant-loop-done : goal.invariant-loop-done
invariant-loop-done g l = record {
  within : l.done ≤ length l.parts.rows.now;
  ends : AreEnds (seen l.parts.sharing l.parts.rows.now) l.parts.workers 0 l.done l.all.items;
  course : IsCourse (seen l.parts.sharing l.parts.rows.now) l.parts.workers l.course;
}

abbrev pub decreases-loop-done : goal.decreases-loop-done
decreases-loop-done g l = l.count - l.done
