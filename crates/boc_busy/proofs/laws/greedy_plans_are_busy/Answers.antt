use Rattle.boc_busy.proofs.Greedily.{greedy_is_busy}
use Rattle.boc_busy.proofs.laws.greedy_plans_are_busy.Goals as goal

pub returns : goal.returns
returns c = λ rows p plan workers hr some g. greedy_is_busy rows hr p some plan workers g
