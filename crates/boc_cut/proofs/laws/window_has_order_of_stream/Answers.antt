use Rattle.boc_cut.proofs.Ordering.{order_kept}
use Rattle.boc_cut.proofs.laws.window_has_order_of_stream.Goals as goal

pub returns : goal.returns
returns c = order_kept
