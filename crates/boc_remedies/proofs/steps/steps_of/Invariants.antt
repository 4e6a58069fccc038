use Rattle.std.proofs.Common.{◌≡◌, length}
use Rattle.boc_remedies.proofs.StepByStep.{LeadTo}
use Rattle.boc_remedies.specs.Questions.{asked}
use Rattle.boc_remedies.proofs.steps.steps_of.Given as goal

-- as many rows as there were, and the steps that were made lead to these rows
abbrev pub invariant-loop : goal.invariant-loop
invariant-loop g l = (length l.rows ≡ length l.question.rows.now) × LeadTo (asked l.question) l.rows l.counter l.steps.items
