use Rattle.std.proofs.Common.{◌-◌}
use Rattle.boc_greedy.specs.Curves.{IsCurve}
use Rattle.boc_greedy.proofs.points.curve_over.Given as goal

-- the points of fewer workers
abbrev pub invariant-loop-p : goal.invariant-loop-p
invariant-loop-p g l = IsCurve l.rows (l.p - 1) l.points.items
