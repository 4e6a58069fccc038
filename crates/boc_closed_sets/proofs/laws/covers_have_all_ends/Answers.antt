use Rattle.boc_closed_sets.proofs.Covering.{whole_orders_end, whole_runs_end, ends_are_whole, live_if_unfinished, no_more_ends, no_more_endless}
use Rattle.boc_closed_sets.proofs.laws.covers_have_all_ends.Goals as goal

pub returns-clause-all : goal.returns-clause-all
returns-clause-all c = whole_runs_end

pub returns-clause-orders : goal.returns-clause-orders
returns-clause-orders c = whole_orders_end

pub returns-clause-whole : goal.returns-clause-whole
returns-clause-whole c = ends_are_whole

pub returns-clause-endless : goal.returns-clause-endless
returns-clause-endless c = live_if_unfinished

pub returns-clause-none : goal.returns-clause-none
returns-clause-none c = no_more_ends

pub returns-clause-none_endless : goal.returns-clause-none_endless
returns-clause-none_endless c = no_more_endless
