use Rattle.std.proofs.Common.{arith, subst, sum, sym}
use Rattle.boc_lines.specs.Lines.{AddUp, lines_from}
use Rattle.boc_lines.proofs.Lining.{sums_from, told_done}
use Rattle.boc_lines.proofs.by_line.told.Goals as goal

pub returns-clause-sums : goal.returns-clause-sums
returns-clause-sums c =
    subst (AddUp (sum c.args.ticks.now) (sum c.args.chain.now))
    (sym (told_done c.loop-line.lines.items c.loop-line.line c.args.ticks.now c.args.chain.now (lines_from 0 c.args.ticks.now c.args.chain.now)
    (omega (arith, c.loop-line-test.false)) c.loop-line.invariant))
    (sums_from 0 c.args.ticks.now c.args.chain.now c.requires.both)
