use Rattle.boc_clock.proofs.OneFirst.{one_first}
use Rattle.boc_clock.proofs.laws.one_is_first.Goals as goal

pub returns : goal.returns
returns c = one_first
