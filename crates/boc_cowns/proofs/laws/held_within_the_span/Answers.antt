use Rattle.boc_cowns.proofs.Held.{held_within}
use Rattle.boc_cowns.proofs.laws.held_within_the_span.Goals as goal

pub returns : goal.returns
returns c list sharing count hot rows is = held_within list sharing count hot rows is
