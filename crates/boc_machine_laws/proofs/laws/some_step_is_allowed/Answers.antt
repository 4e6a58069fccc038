use Rattle.boc_machine_laws.proofs.Allowing.{some_step}
use Rattle.boc_machine_laws.proofs.laws.some_step_is_allowed.Goals as goal

pub returns : goal.returns
returns c = some_step
