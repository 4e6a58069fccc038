use Rattle.boc_outcomes.proofs.OneSample.{brought_back}
use Rattle.boc_outcomes.proofs.laws.seeds_bring_outcomes_back.Goals as goal

pub returns : goal.returns
returns c = brought_back
