use Rattle.boc_order.proofs.Alone.{one_chain, one_end, one_list_of_ends, one_plan}
use Rattle.boc_order.proofs.laws.rows_have_one_plan.Goals as goal

pub returns : goal.returns
returns c = record { plan = one_plan; ends = one_list_of_ends; last = one_end; chain = one_chain }
