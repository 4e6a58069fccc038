use Rattle.boc_machine_laws.proofs.Every.{all_steps}
use Rattle.boc_machine_laws.proofs.laws.quiet_has_all_steps.Goals as goal

pub returns : goal.returns
returns c = all_steps
