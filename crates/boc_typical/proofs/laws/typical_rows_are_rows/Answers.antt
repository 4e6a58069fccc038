use Rattle.boc_typical.proofs.TypicalRows.{typical_rows_are}
use Rattle.boc_typical.proofs.laws.typical_rows_are_rows.Goals as goal

pub returns : goal.returns
returns c = λ rows defs after hr whole t. typical_rows_are rows hr defs whole after t
