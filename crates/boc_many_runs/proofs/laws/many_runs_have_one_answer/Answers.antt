use Rattle.boc_many_runs.proofs.OneAnswer.{one_answer}
use Rattle.boc_many_runs.proofs.laws.many_runs_have_one_answer.Goals as goal

pub returns : goal.returns
returns c = λ p asked m a b x y. one_answer p asked m a b x y
