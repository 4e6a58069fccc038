use Rattle.boc_machine_laws.proofs.Records.{whole_is_complete}
use Rattle.boc_machine_laws.proofs.laws.whole_is_complete.Goals as goal

pub returns : goal.returns
returns c = whole_is_complete
