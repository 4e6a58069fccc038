use Rattle.boc_follow.proofs.OnePlace.{one_place}
use Rattle.boc_follow.proofs.laws.events_are_refused_at_one_place.Goals as goal

pub returns : goal.returns
returns c = one_place
