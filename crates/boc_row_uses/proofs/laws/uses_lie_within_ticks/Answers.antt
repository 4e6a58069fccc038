use Rattle.boc_row_uses.proofs.Fitting.{uses_fit}
use Rattle.boc_row_uses.proofs.laws.uses_lie_within_ticks.Goals as goal

pub returns : goal.returns
returns c p r is of = uses_fit p r is of
