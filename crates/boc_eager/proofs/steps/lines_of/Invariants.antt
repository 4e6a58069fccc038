use Rattle.std.proofs.Common.{◌≤◌}
use Rattle.std.specs.Prelude.{vec_capacity}
use Rattle.boc_eager.specs.Courses.{AreEmpty}
use Rattle.boc_eager.proofs.steps.lines_of.Given as goal

-- so many lines so far
abbrev pub invariant-loop : goal.invariant-loop
invariant-loop l = record {
  room : l.count ≤ vec_capacity l.lines;
  empty : AreEmpty l.counter l.lines.items;
}
