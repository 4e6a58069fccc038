use Rattle.boc_machine_laws.proofs.Bounds.{few_steps}
use Rattle.boc_machine_laws.proofs.laws.steps_are_few.Goals as goal

pub returns : goal.returns
returns c = few_steps
