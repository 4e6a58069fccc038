use Rattle.std.proofs.Common.{◌≡◌, ◌++◌, take}
use Rattle.boc_ends_report.specs.OutcomeTexts.{outcome_texts}
use Rattle.boc_ends_report.proofs.outcome_lines.put_outcomes.Given as goal

-- the texts of the outcomes so far
abbrev pub invariant-loop-outcome : goal.invariant-loop-outcome
invariant-loop-outcome l = l.text.items ≡ l.fn.text.items ++ outcome_texts l.cowns (take l.outcome-index l.outcomes)
