use Rattle.boc_order.proofs.Alone.{one_bound, one_span, one_sweep, one_cown_sweep, one_spawn_sweep}
use Rattle.boc_order.proofs.laws.rows_have_one_span.Goals as goal

pub returns : goal.returns
returns c = record { span = one_span; bound = one_bound; sweep = one_sweep; cowns = one_cown_sweep; spawns = one_spawn_sweep }
