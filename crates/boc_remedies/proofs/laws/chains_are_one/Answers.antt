use Rattle.boc_remedies.proofs.OneChains.{one_chains}
use Rattle.boc_remedies.proofs.laws.chains_are_one.Goals as goal

pub returns : goal.returns
returns c = one_chains
