use Rattle.boc_used_greedy.specs.Fronts.{AreRowsOf}
use Rattle.boc_used_greedy.proofs.Telling.{AreTakenTo}
use Rattle.boc_used_greedy.proofs.plan.take_on.Given as goal

-- the first cowns of the row are taken on
abbrev pub invariant-loop-own : goal.invariant-loop-own
invariant-loop-own l = record {
  taken : AreTakenTo l.rows l.holds.all.items l.starts l.row l.fn.fronts l.own-index l.fronts l.list.items;
  are_rows : AreRowsOf l.rows l.list.items;
}
