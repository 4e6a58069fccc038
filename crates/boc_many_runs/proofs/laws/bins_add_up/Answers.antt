use Rattle.boc_many_runs.proofs.TellingAll.{all_in_bins}
use Rattle.boc_many_runs.proofs.laws.bins_add_up.Goals as goal

pub returns : goal.returns
returns c = λ p asked m many is. all_in_bins p asked m many is
