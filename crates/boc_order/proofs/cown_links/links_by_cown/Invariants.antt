use Rattle.boc_order.specs.Uses.{AreUses}
use Rattle.boc_order.specs.CownLinks.{AreLinked}
use Rattle.boc_order.proofs.cown_links.links_by_cown.Given as goal

-- the rows so far are linked
abbrev pub invariant-loop-row : goal.invariant-loop-row
invariant-loop-row l = record {
  uses : AreUses l.rows l.row l.uses.items;
  linked : AreLinked l.rows l.row l.list.items;
}
