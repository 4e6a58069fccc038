use Rattle.std.proofs.Common.{◌∙◌}
use Rattle.boc_why.proofs.LeftOutCowns.{freed_none, freed_more, freed_kept, freed_all}
use Rattle.boc_why.proofs.causes.freed.Goals.{then-is_left_out-cown, else-is_left_out-cown}
use Rattle.boc_why.proofs.causes.freed.Goals as goal

pub loop-cown-init : goal.loop-cown-init
loop-cown-init c = c.duplicate-left.ensures ∙ freed_none c.args.row.now c.args.is_left_out.now

pub loop-cown-preserved : goal.loop-cown-preserved
loop-cown-preserved c =
    let there = rw c.as_slice-cown-items.ensures.value at c.loop-cown-test.true in
    elim c.if-is_left_out-cown.branch [
      | then-is_left_out-cown w ↦ (
          let marked = rw c.as_slice-cown-items.ensures.value at w.if-is_left_out-cown.true in
          rw (w.left-is, w.without-left.ensures, c.as_slice-cown-items.ensures.value)
          (freed_more c.args.row.now c.args.is_left_out.now c.loop-cown.cown-index 0 there c.loop-cown.left marked c.loop-cown.invariant))
      | else-is_left_out-cown w ↦ (
          let unmarked = rw c.as_slice-cown-items.ensures.value at w.if-is_left_out-cown.false in
          rw w.left-is
          (freed_kept c.args.row.now c.args.is_left_out.now c.loop-cown.cown-index 0 there c.loop-cown.left unmarked c.loop-cown.invariant))
    ]

pub returns : goal.returns
returns c =
    let all = rw c.as_slice-cown-items.ensures.value at c.loop-cown-test.false in
    freed_all c.args.row.now c.args.is_left_out.now c.loop-cown.cown-index c.loop-cown.left all c.requires.among c.loop-cown.invariant
