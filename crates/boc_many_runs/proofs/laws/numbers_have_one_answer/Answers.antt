use Rattle.boc_many_runs.proofs.OneAnswer.{numbers_told, one_numbers_list}
use Rattle.boc_many_runs.proofs.laws.numbers_have_one_answer.Goals as goal

pub returns-clause-one : goal.returns-clause-one
returns-clause-one c = λ p asked m count xs ys x y. one_numbers_list p asked m count xs ys x y

pub returns-clause-told : goal.returns-clause-told
returns-clause-told c = λ p asked m many xs is x. numbers_told p asked m many xs is x
