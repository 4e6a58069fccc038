use Rattle.boc_sharp_footprints.proofs.Footing.{closed_footprint}
use Rattle.boc_sharp_footprints.proofs.laws.closed_sets_make_footprints.Goals as goal

pub returns : goal.returns
returns c = closed_footprint
