use Rattle.boc_machine_laws.proofs.Keeps.{keeps_step}
use Rattle.boc_machine_laws.proofs.laws.steps_keep.Goals as goal

pub returns : goal.returns
returns c p s t step = keeps_step p s step t
