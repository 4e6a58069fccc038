use Rattle.std.proofs.Common.{◌-◌, ◌≤◌}
use Rattle.boc_many_runs.specs.Runs.{AreNumbersOfRuns, manner}
use Rattle.boc_many_runs.proofs.many_numbers.numbers_of_runs.Given as goal

-- the runs that are done
abbrev pub invariant-loop-done : goal.invariant-loop-done
invariant-loop-done g l = record {
  within : l.done ≤ l.asked.runs;
  numbers : AreNumbersOfRuns l.program l.asked (manner l.judging) l.done l.all.items;
}

-- how many are left
abbrev pub decreases-loop-done : goal.decreases-loop-done
decreases-loop-done g l = l.asked.runs - l.done
