use Rattle.boc_fronts.proofs.OrdersRun.{orders_make_runs, whole_orders_make_runs}
use Rattle.boc_fronts.proofs.laws.orders_make_runs.Goals as goal

pub returns-clause-some : goal.returns-clause-some
returns-clause-some c = orders_make_runs

pub returns-clause-whole : goal.returns-clause-whole
returns-clause-whole c = whole_orders_make_runs
