use Rattle.boc_typical.proofs.OneTypical.{own_defs_stay}
use Rattle.boc_typical.proofs.laws.rows_of_own_defs_stay.Goals as goal

pub returns : goal.returns
returns c = λ rows defs after hr whole apart t. own_defs_stay rows hr defs whole apart after t
