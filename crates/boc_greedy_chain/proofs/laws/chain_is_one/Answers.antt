use Rattle.boc_greedy_chain.proofs.OneChain.{one_chain}
use Rattle.boc_greedy_chain.proofs.laws.chain_is_one.Goals as goal

pub returns : goal.returns
returns c = λ rows p plan workers steps others hr g one other. one_chain rows hr p plan workers g steps others one other
