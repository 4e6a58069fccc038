use Rattle.std.proofs.Common.{◌≡◌, ◌*◌, ◌≤◌, List, take}
use Rattle.boc_program.specs.declared.limits.TheConstants.{MOST_TICKS}
use Rattle.std.specs.List.{sum_by}
use Rattle.boc_runs.specs.declared.rows.Row.{Row}
use Rattle.boc_plans.specs.Plans.{HasEnds}
use Rattle.boc_order.proofs.analysis.work_between.Given as goal

-- the ticks of the rows so far
abbrev pub invariant-loop-row : goal.invariant-loop-row
invariant-loop-row l = record {
  low : l.total ≤ l.row * MOST_TICKS;
  is : (rows : List Row) → HasEnds rows l.starts l.ends → l.total ≡ sum_by (λ x. x.ticks) (take l.row rows);
}
