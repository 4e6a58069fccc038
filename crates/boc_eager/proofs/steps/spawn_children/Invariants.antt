use Rattle.std.proofs.Common.{◌<◌, ◌≤◌, ◌-◌, length}
use Rattle.boc_runs.specs.Changes.{IsChildOf}
use Rattle.boc_eager.specs.Courses.{AreSpawned}
use Rattle.boc_eager.proofs.steps.spawn_children.Given as goal

-- the children before this one are spawned
abbrev pub invariant-loop-child : goal.invariant-loop-child
invariant-loop-child l = record {
  within : l.child ≤ length l.rows;
  child : l.child < length l.rows → IsChildOf l.rows l.row l.child;
  spawned : AreSpawned l.rows l.row l.tick l.child l.fn.places l.places l.fn.next.keys l.next.keys;
}

abbrev pub decreases-loop-child : goal.decreases-loop-child
decreases-loop-child l = length l.rows - l.child
