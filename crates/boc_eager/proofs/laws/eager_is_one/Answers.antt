use Rattle.boc_eager.proofs.EagerPlans.{one_plan}
use Rattle.boc_eager.proofs.laws.eager_is_one.Goals as goal

pub returns : goal.returns
returns c = λ rows plan other shape p o. one_plan rows shape plan other p o
