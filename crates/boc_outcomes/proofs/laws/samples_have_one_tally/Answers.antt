use Rattle.boc_outcomes.proofs.Alone.{one_tally}
use Rattle.boc_outcomes.proofs.laws.samples_have_one_tally.Goals as goal

pub returns : goal.returns
returns c = one_tally
