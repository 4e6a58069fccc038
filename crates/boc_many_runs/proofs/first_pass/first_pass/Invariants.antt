use Rattle.std.proofs.Common.{◌-◌, ◌≤◌}
use Rattle.boc_many_runs.specs.Passes.{HasFound}
use Rattle.boc_many_runs.specs.Runs.{manner}
use Rattle.boc_many_runs.proofs.first_pass.first_pass.Given as goal

-- the runs that are done
abbrev pub invariant-loop-done : goal.invariant-loop-done
invariant-loop-done g l = record {
  within : l.done ≤ l.asked.runs;
  found : HasFound l.program l.asked (manner l.judging) l.done l.pass.numbers.items l.pass.counted.items;
}

-- how many are left
abbrev pub decreases-loop-done : goal.decreases-loop-done
decreases-loop-done g l = l.asked.runs - l.done
