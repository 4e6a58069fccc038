use Rattle.boc_used_greedy.proofs.Unrelaxed.{greedy_end_none}
use Rattle.boc_used_greedy.proofs.laws.none_relaxed_is_greedy.Goals as goal

pub returns : goal.returns
returns c = greedy_end_none
