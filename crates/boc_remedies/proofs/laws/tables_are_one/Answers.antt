use Rattle.boc_remedies.proofs.OneTogether.{one_table}
use Rattle.boc_remedies.proofs.laws.tables_are_one.Goals as goal

pub returns : goal.returns
returns c = λ question span lines others hr a b. one_table question span lines others a b
