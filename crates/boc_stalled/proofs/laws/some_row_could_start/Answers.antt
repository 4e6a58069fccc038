use Rattle.boc_stalled.proofs.Least.{some_starts}
use Rattle.boc_stalled.proofs.laws.some_row_could_start.Goals as goal

pub returns-clause-some : goal.returns-clause-some
returns-clause-some c = some_starts
