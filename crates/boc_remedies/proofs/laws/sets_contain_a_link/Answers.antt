use Rattle.boc_remedies.proofs.WithLinks.{link_in}
use Rattle.boc_remedies.proofs.laws.sets_contain_a_link.Goals as goal

pub returns : goal.returns
returns c = link_in
