use Rattle.std.proofs.Common.{ℕ, ◌<◌, length, arith}
use Rattle.std.specs.Prelude.{slice_index}
use Rattle.boc_stalled.proofs.Marking.{marks_none, marks_more, marks_all}
use Rattle.boc_stalled.proofs.marks.mark.Goals as goal

pub loop-cown-init : goal.loop-cown-init
loop-cown-init c = marks_none c.args.marks.now c.args.cowns.now

pub loop-cown-preserved : goal.loop-cown-preserved
loop-cown-preserved c =
    let i : ℕ = c.loop-cown.cown-index in
    let small : slice_index c.args.cowns.now i < 256 = omega (arith, c.type_inv.cowns i) in
    let within : slice_index c.args.cowns.now i < length c.loop-cown.marks = omega (arith, small, c.requires) in
    marks_more c.args.marks.now c.loop-cown.marks c.args.cowns.now i c.loop-cown-test.true within c.loop-cown.invariant

pub returns-clause-marked : goal.returns-clause-marked
returns-clause-marked c =
    marks_all c.args.marks.now c.loop-cown.marks c.args.cowns.now c.loop-cown.cown-index c.loop-cown-test.false c.loop-cown.invariant
