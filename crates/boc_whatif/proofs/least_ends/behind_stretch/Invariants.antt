use Rattle.std.proofs.Common.{◌<◌}
use Rattle.boc_whatif.specs.declared.least_ends.TheConstants.{STRETCH}
use Rattle.boc_whatif.proofs.least_ends.behind_stretch.Given as goal

-- there were fewer rows with plans
abbrev pub invariant-loop-row : goal.invariant-loop-row
invariant-loop-row l = record { few : l.plans < STRETCH }
