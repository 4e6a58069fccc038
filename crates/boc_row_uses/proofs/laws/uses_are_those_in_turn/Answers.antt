use Rattle.boc_row_uses.proofs.InTurn.{one_answer, uses_in_number_order}
use Rattle.boc_row_uses.proofs.laws.uses_are_those_in_turn.Goals as goal

pub returns-clause-turn : goal.returns-clause-turn
returns-clause-turn c p log whole = uses_in_number_order p log whole

pub returns-clause-one : goal.returns-clause-one
returns-clause-one c p log other whole whole' same = one_answer p log other whole whole' same
