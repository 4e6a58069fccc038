use Rattle.boc_all_ends.proofs.Layering.{next_stands}
use Rattle.boc_all_ends.proofs.Ready.{ready}
use Rattle.boc_all_ends.specs.Spreading.{seen}
use Rattle.boc_all_ends.proofs.laws.layers_go_on.Goals as goal

pub returns-clause-ready : goal.returns-clause-ready
returns-clause-ready c p lists rows fs s f among = ready p lists rows fs f s.covers s.kept among

pub returns-clause-next : goal.returns-clause-next
returns-clause-next c p a b rows fs new some s spread kept = next_stands p b rows (seen a fs) new some s.covers spread kept
