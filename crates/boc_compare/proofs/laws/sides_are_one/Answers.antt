use Rattle.boc_compare.proofs.OneSide.{one_side}
use Rattle.boc_compare.proofs.laws.sides_are_one.Goals as goal

pub returns : goal.returns
returns c = λ question side other hr whole a b. one_side question side other hr whole a b
