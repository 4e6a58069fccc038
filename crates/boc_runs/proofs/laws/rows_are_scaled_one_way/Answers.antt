use Rattle.boc_runs.proofs.Scaling.{one_scaling}
use Rattle.boc_runs.proofs.laws.rows_are_scaled_one_way.Goals as goal

pub returns : goal.returns
returns c = one_scaling
