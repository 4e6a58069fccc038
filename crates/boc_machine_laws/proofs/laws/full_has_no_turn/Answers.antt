use Rattle.boc_machine_laws.proofs.OneTurn.{no_turn}
use Rattle.boc_machine_laws.proofs.laws.full_has_no_turn.Goals as goal

pub returns : goal.returns
returns c = no_turn
