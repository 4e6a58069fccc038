use Rattle.boc_greedy_chain.proofs.Freeing.{all_busy}
use Rattle.boc_greedy_chain.proofs.laws.all_are_busy.Goals as goal

pub returns : goal.returns
returns c = λ rows p plan workers steps k t step next hr g chain at after tie ready later. all_busy rows hr p plan workers g next.row t ready later
