use Rattle.boc_closed_sets.specs.Footprints.{IsListed}
use Rattle.boc_closed_sets.proofs.Sufficing.{closed_are_enough, closed_sets_are_enough}
use Rattle.boc_closed_sets.proofs.laws.closed_sets_are_enough.Goals as goal

pub returns-clause-listed : goal.returns-clause-listed
returns-clause-listed c p listed = closed_are_enough p (IsListed listed)

pub returns-clause-kinds : goal.returns-clause-kinds
returns-clause-kinds c p reach = closed_sets_are_enough p (IsListed reach)
