use Rattle.boc_remedies.proofs.OneGreedyWhy.{one_greedy_why}
use Rattle.boc_remedies.proofs.laws.greedy_whys_are_one.Goals as goal

pub returns : goal.returns
returns c = one_greedy_why
