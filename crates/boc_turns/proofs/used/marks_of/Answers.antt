use Rattle.std.proofs.Common.{◌<◌, arith}
use Rattle.std.specs.Prelude.{slice_index}
use Rattle.boc_program.specs.declared.limits.TheConstants.{MOST_COWNS}
use Rattle.boc_turns.proofs.Marking.{marks_more, AreMarks}
use Rattle.boc_turns.proofs.used.marks_of.Goals as goal

pub loop-cown-preserved : goal.loop-cown-preserved
loop-cown-preserved c =
    let cowns = c.args.cowns.now in
    let low : slice_index cowns c.loop-cown.cown-index < MOST_COWNS = omega arith in
    let m : AreMarks cowns c.loop-cown.cown-index c.loop-cown.marks.items =
    record { whole = c.loop-cown.invariant.whole; each = c.loop-cown.invariant.each } in
    let n = marks_more cowns c.loop-cown.cown-index c.loop-cown.marks.items c.loop-cown-test.true low m in
    record { whole = n.whole; each = n.each }
