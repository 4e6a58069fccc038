use Rattle.boc_follow.proofs.Refusals.{start_may}
use Rattle.boc_follow.proofs.laws.starts_of_a_record_are_never_refused.Goals as goal

pub returns : goal.returns
returns c = start_may
