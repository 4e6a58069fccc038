use Rattle.boc_runs.proofs.OwnOrders.{not_too_many}
use Rattle.boc_runs.proofs.laws.ends_or_has_too_many.Goals as goal

pub returns : goal.returns
returns c = not_too_many c.args.program.now
