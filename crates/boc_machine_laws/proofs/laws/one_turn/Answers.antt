use Rattle.boc_machine_laws.proofs.OneTurn.{one_turn, one_of_turns}
use Rattle.boc_machine_laws.proofs.laws.one_turn.Goals as goal

pub returns-clause-turn : goal.returns-clause-turn
returns-clause-turn c = one_turn

pub returns-clause-turns : goal.returns-clause-turns
returns-clause-turns c = one_of_turns
