use Rattle.boc_greedy_chain.proofs.Chaining.{weight_is_end}
use Rattle.boc_greedy_chain.proofs.laws.chain_adds_up.Goals as goal

pub returns : goal.returns
returns c = λ rows p last plan workers steps hr g end chain. weight_is_end rows plan workers hr p last steps g end chain
