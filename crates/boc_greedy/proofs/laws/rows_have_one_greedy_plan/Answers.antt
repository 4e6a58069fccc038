use Rattle.boc_greedy.proofs.Alone.{one_greedy_plan}
use Rattle.boc_greedy.proofs.laws.rows_have_one_greedy_plan.Goals as goal

pub returns : goal.returns
returns c = λ rows p plan workers other others hr one two. one_greedy_plan rows hr p plan workers other others one two
