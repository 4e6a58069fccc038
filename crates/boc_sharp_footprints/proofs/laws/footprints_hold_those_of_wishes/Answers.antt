use Rattle.boc_sharp_footprints.specs.Footprints.{ReachedBy}
use Rattle.boc_sharp_footprints.proofs.Footing.{holds_wishes}
use Rattle.boc_sharp_footprints.proofs.laws.footprints_hold_those_of_wishes.Goals as goal

pub returns : goal.returns
returns c p table = holds_wishes p (ReachedBy table)
