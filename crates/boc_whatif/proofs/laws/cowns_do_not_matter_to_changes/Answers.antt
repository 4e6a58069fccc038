use Rattle.boc_whatif.proofs.Commuting.{changed-without}
use Rattle.boc_whatif.proofs.laws.cowns_do_not_matter_to_changes.Goals as goal

pub returns : goal.returns
returns c = changed-without
