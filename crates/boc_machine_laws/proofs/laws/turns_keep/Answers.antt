use Rattle.boc_machine_laws.proofs.OneTurn.{turns_keep}
use Rattle.boc_machine_laws.proofs.laws.turns_keep.Goals as goal

pub returns : goal.returns
returns c = turns_keep
