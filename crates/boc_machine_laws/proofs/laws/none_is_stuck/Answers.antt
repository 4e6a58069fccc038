use Rattle.boc_machine_laws.proofs.Moving.{none_is_stuck}
use Rattle.boc_machine_laws.proofs.laws.none_is_stuck.Goals as goal

pub returns : goal.returns
returns c = none_is_stuck
