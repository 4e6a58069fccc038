use Rattle.boc_footprints.proofs.Footing.{wish_takes_all}
use Rattle.boc_footprints.proofs.laws.wishes_take_all.Goals as goal

pub returns : goal.returns
returns c = wish_takes_all
