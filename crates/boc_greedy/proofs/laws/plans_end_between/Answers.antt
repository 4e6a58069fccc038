use Rattle.boc_greedy.proofs.Curving.{none_ends_before, point_between}
use Rattle.boc_greedy.proofs.laws.plans_end_between.Goals as goal

pub returns-clause-none_before : goal.returns-clause-none_before
returns-clause-none_before c = none_ends_before

pub returns-clause-between : goal.returns-clause-between
returns-clause-between c = λ rows p point hr some is. point_between rows hr p point some is
