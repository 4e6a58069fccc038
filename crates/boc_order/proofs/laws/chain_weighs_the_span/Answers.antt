use Rattle.boc_order.proofs.Weighing.{weight_is_end}
use Rattle.boc_order.proofs.laws.chain_weighs_the_span.Goals as goal

pub returns : goal.returns
returns c = λ rows plan span steps hr earliest ends picked. weight_is_end rows hr plan span steps earliest ends picked
