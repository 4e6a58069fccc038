use Rattle.boc_order.proofs.LeastBusy.{least_ends}
use Rattle.boc_eager.proofs.EagerPlans.{keeps_apart}
use Rattle.boc_eager.proofs.laws.another_order_ends_no_sooner.Goals as goal

pub returns : goal.returns
returns c = λ rows count least plan end shape e ends is. least_ends rows plan end count least shape e.keeps (keeps_apart rows shape plan e) ends is
