use Rattle.boc_commands.proofs.OneSearch.{one_search}
use Rattle.boc_commands.proofs.laws.ends_are_one.Goals as goal

pub returns : goal.returns
returns c = λ most other input output another a b whole too. one_search most other input output another a b whole too
