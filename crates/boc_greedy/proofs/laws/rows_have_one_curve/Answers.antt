use Rattle.boc_greedy.proofs.Curving.{one_curve, one_greedy_cown_sweep, one_greedy_sweep}
use Rattle.boc_greedy.proofs.laws.rows_have_one_curve.Goals as goal

pub returns-clause-sweep : goal.returns-clause-sweep
returns-clause-sweep c = λ rows p ends others hr s t. one_greedy_sweep rows hr p ends others s t

pub returns-clause-curve : goal.returns-clause-curve
returns-clause-curve c = λ rows most points others hr s t. one_curve rows hr most points others s t

pub returns-clause-cowns : goal.returns-clause-cowns
returns-clause-cowns c = λ rows p count ends others hr s t. one_greedy_cown_sweep rows hr p count ends others s t
