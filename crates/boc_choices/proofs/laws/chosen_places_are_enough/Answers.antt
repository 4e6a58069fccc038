use Rattle.boc_choices.proofs.Closed.{chosen_are_enough}
use Rattle.boc_choices.proofs.laws.chosen_places_are_enough.Goals as goal

pub returns : goal.returns
returns c = chosen_are_enough
