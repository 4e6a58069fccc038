use Rattle.boc_typical.proofs.OneTypical.{one_typical}
use Rattle.boc_typical.proofs.laws.typical_rows_are_one.Goals as goal

pub returns : goal.returns
returns c = λ rows defs after other hr whole s t. one_typical rows hr defs whole after other s t
