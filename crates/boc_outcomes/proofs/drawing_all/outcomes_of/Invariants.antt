use Rattle.std.proofs.Common.{◌-◌}
use Rattle.boc_outcomes.proofs.Rounds.{HasDrawn}
use Rattle.boc_outcomes.proofs.drawing_all.outcomes_of.Given as goal

-- the draws that are done
abbrev pub invariant-loop-done : goal.invariant-loop-done
invariant-loop-done g l = HasDrawn l.program l.asked l.done l.tally

-- how many are left
abbrev pub decreases-loop-done : goal.decreases-loop-done
decreases-loop-done g l = l.asked.runs - l.done
