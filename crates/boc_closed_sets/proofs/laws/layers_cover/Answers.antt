use Rattle.boc_closed_sets.proofs.Covering.{layers_cover}
use Rattle.boc_closed_sets.proofs.laws.layers_cover.Goals as goal

pub returns : goal.returns
returns c = layers_cover
