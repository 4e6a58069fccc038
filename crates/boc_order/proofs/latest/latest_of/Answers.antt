use Rattle.std.proofs.Common.{refl, arith, length, ◌<◌}
use Rattle.std.specs.Prelude.{slice_index}
use Rattle.std.proofs.lemmas.List.Elements.{Contains-get_or}
use Rattle.boc_order.proofs.Remembering.{latest_none, latest_more, latest_all}
use Rattle.boc_order.proofs.latest.latest_of.Goals as goal

pub loop-row-init : goal.loop-row-init
loop-row-init c = latest_none _ _ _

pub bounds-ends-row : goal.bounds-ends-row
bounds-ends-row c = c.requires.there _ (Contains-get_or _ _ 0 c.loop-row-test.true)

pub loop-row-preserved : goal.loop-row-preserved
loop-row-preserved c =
    let there : slice_index c.args.rows.now c.loop-row.row-index < length c.args.ends.now = c.requires.there _ (Contains-get_or _ _ 0 c.loop-row-test.true) in
    rw c.later-latest.ensures (latest_more _ _ _ _ _ refl (c.requires.late _ there) refl c.loop-row.invariant)

pub returns : goal.returns
returns c = latest_all _ _ c.loop-row.row-index _ (omega (arith, c.loop-row-test.false, c.loop-row.auto.row-index-end)) c.loop-row.invariant
