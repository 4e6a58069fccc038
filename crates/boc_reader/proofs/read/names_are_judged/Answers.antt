use Rattle.boc_reader.proofs.NameOrder.{tree_order}
use Rattle.boc_reader.proofs.RightNames.{right_resolves, wrong_resolves_not}
use Rattle.boc_reader.proofs.read.names_are_judged.Goals as goal

pub returns-clause-order : goal.returns-clause-order
returns-clause-order c = tree_order

pub returns-clause-right : goal.returns-clause-right
returns-clause-right c = right_resolves

pub returns-clause-wrong : goal.returns-clause-wrong
returns-clause-wrong c = wrong_resolves_not
