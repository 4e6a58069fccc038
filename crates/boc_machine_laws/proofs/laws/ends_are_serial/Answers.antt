use Rattle.boc_machine_laws.proofs.Serially.{ends_serially}
use Rattle.boc_machine_laws.proofs.laws.ends_are_serial.Goals as goal

pub returns : goal.returns
returns c = ends_serially
