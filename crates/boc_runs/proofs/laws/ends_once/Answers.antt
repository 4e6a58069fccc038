use Rattle.boc_runs.proofs.OwnOrders.{ends_once}
use Rattle.boc_runs.proofs.laws.ends_once.Goals as goal

pub returns : goal.returns
returns c = ends_once c.args.program.now
