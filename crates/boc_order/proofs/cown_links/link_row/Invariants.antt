use Rattle.boc_runs.specs.Rows.{cowns_of}
use Rattle.boc_order.proofs.Using.{Halfway}
use Rattle.boc_order.proofs.CownLinked.{LinkedSoFar}
use Rattle.boc_order.proofs.cown_links.link_row.Given as goal

-- the row has used the cowns so far, and its links on them were added
abbrev pub invariant-loop-cown : goal.invariant-loop-cown
invariant-loop-cown l = record {
  uses : Halfway l.rows l.row l.cown-index (cowns_of l.rows l.row) l.uses;
  linked : LinkedSoFar l.rows l.row l.cown-index (cowns_of l.rows l.row) l.links.items;
}
