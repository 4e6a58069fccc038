use Rattle.boc_machine_laws.proofs.Serially.{values_at_end}
use Rattle.boc_machine_laws.proofs.laws.values_are_serial.Goals as goal

pub returns : goal.returns
returns c = values_at_end
