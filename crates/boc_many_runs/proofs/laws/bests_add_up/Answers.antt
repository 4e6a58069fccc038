use Rattle.boc_many_runs.proofs.TellingAll.{few_best}
use Rattle.boc_many_runs.proofs.laws.bests_add_up.Goals as goal

pub returns : goal.returns
returns c = λ p asked m many is. few_best p asked m many is
