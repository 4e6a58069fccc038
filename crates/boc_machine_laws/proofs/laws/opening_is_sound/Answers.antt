use Rattle.boc_machine_laws.proofs.Every.{opening_sound}
use Rattle.boc_machine_laws.proofs.laws.opening_is_sound.Goals as goal

pub returns : goal.returns
returns c = opening_sound
