use Rattle.boc_cowns.proofs.Held.{busy_within}
use Rattle.boc_cowns.proofs.laws.busy_in_every_order.Goals as goal

pub returns : goal.returns
returns c list sharing count hot plan last rows is keeps apart end = busy_within list sharing count hot plan last rows is keeps apart end
