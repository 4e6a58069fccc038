use Rattle.std.proofs.Common.{◌-◌, ◌≤◌}
use Rattle.boc_many_runs.specs.Runs.{AreColumns, manner}
use Rattle.boc_many_runs.proofs.second_pass.second_pass.Given as goal

-- the runs that are done
abbrev pub invariant-loop-done : goal.invariant-loop-done
invariant-loop-done g l = record {
  within : l.done ≤ l.asked.runs;
  columns : AreColumns l.program l.asked (manner l.judging) l.remedies l.done l.columns.items;
}

-- how many are left
abbrev pub decreases-loop-done : goal.decreases-loop-done
decreases-loop-done g l = l.asked.runs - l.done
