use Rattle.boc_cowns.proofs.Handed.{hands_conflict}
use Rattle.boc_cowns.proofs.laws.handed_where_rows_conflict.Goals as goal

pub returns : goal.returns
returns c rows cown a b = hands_conflict rows cown a b
