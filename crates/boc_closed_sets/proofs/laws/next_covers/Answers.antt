use Rattle.boc_closed_sets.proofs.Covering.{next_covers}
use Rattle.boc_closed_sets.proofs.laws.next_covers.Goals as goal

pub returns : goal.returns
returns c = next_covers
