use Rattle.boc_typical.proofs.LongRows.{one_outliers}
use Rattle.boc_typical.proofs.laws.outliers_are_one.Goals as goal

pub returns : goal.returns
returns c = one_outliers
