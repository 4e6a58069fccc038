use Rattle.boc_machine_laws.proofs.Every.{whole_run}
use Rattle.boc_machine_laws.proofs.laws.quiet_is_whole.Goals as goal

pub returns : goal.returns
returns c = whole_run
