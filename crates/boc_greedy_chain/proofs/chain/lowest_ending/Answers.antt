use Rattle.std.proofs.Common.{arith}
use Rattle.std.proofs.lemmas.List.Elements.{Contains-get_or}
use Rattle.boc_greedy_chain.proofs.Lowest.{lowest_none, lowest_same, lowest_more, lowest_all}
use Rattle.boc_greedy_chain.proofs.chain.lowest_ending.Goals.{then-ends-row, else-ends-row}
use Rattle.boc_greedy_chain.proofs.chain.lowest_ending.Goals as goal

pub loop-row-init : goal.loop-row-init
loop-row-init c = lowest_none _ _ _

pub bounds-ends-row : goal.bounds-ends-row
bounds-ends-row c = c.requires.there _ (Contains-get_or _ _ 0 c.loop-row-test.true)

pub loop-row-preserved : goal.loop-row-preserved
loop-row-preserved c = elim c.if-ends-row.branch [
  | then-ends-row w ↦ rw (w.found-is, w.lower.ensures)
      (lowest_more c.args.rows.now c.args.ends.now c.args.tick c.loop-row.row-index c.loop-row.found w.if-ends-row.true c.loop-row.invariant)
  | else-ends-row w ↦ rw w.found-is
      (lowest_same c.args.rows.now c.args.ends.now c.args.tick c.loop-row.row-index c.loop-row.found w.if-ends-row.false c.loop-row.invariant)
]

pub returns : goal.returns
returns c = lowest_all _ _ _ c.loop-row.row-index _ (omega (arith, c.loop-row-test.false, c.loop-row.auto.row-index-end)) c.loop-row.invariant
