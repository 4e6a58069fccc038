use Rattle.boc_why.proofs.EarlySpawns.{one_early}
use Rattle.boc_why.proofs.laws.early_rows_are_one.Goals as goal

pub returns : goal.returns
returns c = λ rows defs def after other hr s t. one_early rows defs def after other s t
