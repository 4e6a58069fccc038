use Rattle.boc_why.proofs.OneWhy.{one_why}
use Rattle.boc_why.proofs.laws.rows_have_one_why.Goals as goal

pub returns : goal.returns
returns c = one_why
