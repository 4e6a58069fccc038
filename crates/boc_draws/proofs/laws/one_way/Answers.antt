use Rattle.boc_draws.proofs.OneWay.{one_way, way_or_full}
use Rattle.boc_draws.proofs.laws.one_way.Goals as goal

pub returns-clause-one : goal.returns-clause-one
returns-clause-one c p workers depth a b x y = one_way p workers depth a b x y

pub returns-clause-either : goal.returns-clause-either
returns-clause-either c p workers depth way is full = way_or_full p workers depth way is full
