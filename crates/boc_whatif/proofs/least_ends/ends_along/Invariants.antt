use Rattle.boc_plans.specs.Seen.{seen}
use Rattle.boc_greedy.specs.Courses.{IsCourse}
use Rattle.boc_whatif.specs.Pieces.{AreEnds}
use Rattle.boc_whatif.proofs.least_ends.ends_along.Given as goal

-- the ends for the rows so far, and a course of the rows as they are
abbrev pub invariant-loop-row : goal.invariant-loop-row
invariant-loop-row l = record {
  ends : AreEnds (seen l.parts.sharing l.parts.rows.now) l.parts.workers l.fn.from l.row l.ends.items;
  course : IsCourse (seen l.parts.sharing l.parts.rows.now) l.parts.workers l.course;
}
