use Rattle.boc_footprints.specs.Footprints.{Reaches}
use Rattle.boc_footprints.proofs.Footing.{is_footprint, holds_wishes}
use Rattle.boc_footprints.proofs.laws.footprints_hold_those_of_wishes.Goals as goal

pub returns : goal.returns
returns c p = holds_wishes p (Reaches p) (is_footprint p)
