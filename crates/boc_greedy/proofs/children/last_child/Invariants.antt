use Rattle.std.proofs.Common.{◌-◌, length}
use Rattle.boc_runs.specs.Rows.{parent_of}
use Rattle.boc_plans.specs.Plans.{IsChild}
use Rattle.boc_greedy.proofs.children.last_child.Given as goal

-- it is a child of the same parent
abbrev pub invariant-loop-last : goal.invariant-loop-last
invariant-loop-last l = IsChild l.rows (parent_of l.rows l.child) l.last

abbrev pub decreases-loop-last : goal.decreases-loop-last
decreases-loop-last l = length l.rows - l.last
