use Rattle.std.proofs.Common.{◌∙◌, arith, replicate}
use Rattle.boc_lines.specs.Books.{tally}
use Rattle.boc_lines.specs.Lines.{line_charges}
use Rattle.boc_lines.proofs.Lining.{lines_below, lines_done, total_lines}
use Rattle.boc_lines.proofs.Replaying.{counted, summed}
use Rattle.boc_lines.proofs.by_line.summed.Goals as goal

pub returns-clause-counts : goal.returns-clause-counts
returns-clause-counts c =
    let all = line_charges c.args.lines.now c.args.ticks.now in
    counted c.args.ends all c.loop-i.counts.items
    (lines_done c.loop-i.counts.items c.args.lines.now c.args.ticks.now c.loop-i.i (tally (replicate c.args.ends 0) all) (omega (arith, c.loop-i-test.false))
    c.loop-i.invariant.so_far)

pub returns-clause-sum : goal.returns-clause-sum
returns-clause-sum c =
    let all = line_charges c.args.lines.now c.args.ticks.now in
    summed c.args.ends all c.loop-i.counts.items
    (lines_done c.loop-i.counts.items c.args.lines.now c.args.ticks.now c.loop-i.i (tally (replicate c.args.ends 0) all) (omega (arith, c.loop-i-test.false))
    c.loop-i.invariant.so_far)
    (lines_below c.args.ends c.args.lines.now c.args.ticks.now c.requires.below)
    ∙ total_lines c.args.lines.now c.args.ticks.now c.requires.both
