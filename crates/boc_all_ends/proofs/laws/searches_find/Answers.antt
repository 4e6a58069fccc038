use Rattle.boc_all_ends.proofs.Searching.{is_found}
use Rattle.boc_all_ends.proofs.laws.searches_find.Goals as goal

pub returns : goal.returns
returns c = is_found
