use Rattle.boc_used_greedy.proofs.Alone.{one_end}
use Rattle.boc_used_greedy.proofs.laws.used_greedy_end_is_one.Goals as goal

pub returns : goal.returns
returns c = one_end
