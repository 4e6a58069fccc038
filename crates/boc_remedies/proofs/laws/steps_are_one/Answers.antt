use Rattle.boc_remedies.proofs.OneSteps.{one_steps}
use Rattle.boc_remedies.proofs.laws.steps_are_one.Goals as goal

pub returns : goal.returns
returns c = one_steps
