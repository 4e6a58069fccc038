use Rattle.boc_eager.proofs.EagerPlans.{differs}
use Rattle.boc_eager.proofs.laws.sooner_order_differs.Goals as goal

pub returns : goal.returns
returns c = λ rows plan span end shape e ends is_span sooner none. differs rows shape plan e span end ends is_span sooner none
