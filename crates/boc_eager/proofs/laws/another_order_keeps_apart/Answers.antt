use Rattle.boc_eager.proofs.EagerPlans.{keeps_apart}
use Rattle.boc_eager.proofs.laws.another_order_keeps_apart.Goals as goal

pub returns-clause-apart : goal.returns-clause-apart
returns-clause-apart c = λ rows plan shape e. keeps_apart rows shape plan e
