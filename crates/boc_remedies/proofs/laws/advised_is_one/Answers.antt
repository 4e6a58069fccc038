use Rattle.boc_remedies.proofs.OneAdvised.{one_advised}
use Rattle.boc_remedies.proofs.laws.advised_is_one.Goals as goal

pub returns : goal.returns
returns c = one_advised
