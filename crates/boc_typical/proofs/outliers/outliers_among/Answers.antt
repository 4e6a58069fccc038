use Rattle.std.proofs.Common.{arith}
use Rattle.boc_typical.proofs.LongRows.{all_found, found_more, none_found}
use Rattle.boc_typical.proofs.outliers.outliers_among.Goals as goal

pub loop-place-init : goal.loop-place-init
loop-place-init c = none_found c.args.typical.now c.args.rows.now c.args.defs.now

pub with_row-found-requires-clause-rows : goal.with_row-found-requires-clause-rows
with_row-found-requires-clause-rows c = omega (arith, c.loop-place.invariant.few_rows, c.loop-place-test.true, c.requires.shape.not_many)

pub with_row-found-requires-clause-ticks : goal.with_row-found-requires-clause-ticks
with_row-found-requires-clause-ticks c = omega (arith, c.loop-place.invariant.few_ticks, c.loop-place-test.true, c.requires.shape.not_many)

pub loop-place-preserved : goal.loop-place-preserved
loop-place-preserved c = rw c.with_row-found.ensures (found_more c.args.typical.now c.args.rows.now c.args.defs.now c.loop-place.place c.loop-place.found
    c.index-rows-place.result c.requires.shape c.requires.defs c.loop-place-test.true c.index-rows-place.is c.loop-place.invariant)

pub returns-clause-is : goal.returns-clause-is
returns-clause-is c = all_found c.args.typical.now c.args.rows.now c.args.defs.now c.loop-place.place c.loop-place.found c.requires.defs
    c.loop-place-test.false c.loop-place.invariant

pub returns-clause-low : goal.returns-clause-low
returns-clause-low c = omega (arith, c.loop-place.invariant.few_ticks, c.loop-place.auto.place-end, c.requires.shape.not_many)
