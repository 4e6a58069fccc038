use Rattle.boc_remedies.proofs.OneLookedAt.{one_looked_at}
use Rattle.boc_remedies.proofs.laws.looked_at_are_one.Goals as goal

pub returns : goal.returns
returns c = λ question span looked others hr a b. one_looked_at question span looked others a b
