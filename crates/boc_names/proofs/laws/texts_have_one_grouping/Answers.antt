use Rattle.boc_names.proofs.OneName.{one_grouping}
use Rattle.boc_names.proofs.laws.texts_have_one_grouping.Goals as goal

pub returns : goal.returns
returns c = one_grouping
