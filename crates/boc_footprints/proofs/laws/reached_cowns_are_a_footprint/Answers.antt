use Rattle.boc_footprints.proofs.Footing.{is_footprint}
use Rattle.boc_footprints.proofs.laws.reached_cowns_are_a_footprint.Goals as goal

pub returns : goal.returns
returns c = is_footprint
