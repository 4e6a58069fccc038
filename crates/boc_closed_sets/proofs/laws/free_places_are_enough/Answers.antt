use Rattle.boc_closed_sets.proofs.Sufficing.{free_places_are_enough}
use Rattle.boc_closed_sets.proofs.laws.free_places_are_enough.Goals as goal

pub returns : goal.returns
returns c = free_places_are_enough
