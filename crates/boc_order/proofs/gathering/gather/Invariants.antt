use Rattle.boc_runs.specs.Rows.{cowns_of}
use Rattle.boc_order.proofs.Using.{Halfway, Added}
use Rattle.boc_order.proofs.gathering.gather.Given as goal

-- the row has used the cowns so far, and the rows for which it waits on them were added
abbrev pub invariant-loop-cown : goal.invariant-loop-cown
invariant-loop-cown l = record {
  uses : Halfway l.rows l.row l.cown-index (cowns_of l.rows l.row) l.uses;
  list : Added l.rows l.row l.cown-index (cowns_of l.rows l.row) l.fn.list.items l.list.items;
}
