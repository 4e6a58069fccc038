use Rattle.std.proofs.Common.{◌≡◌, ◌++◌, drop}
use Rattle.boc_lines.specs.Lines.{lines_from}
use Rattle.boc_lines.proofs.by_line.told.Given as goal

abbrev pub invariant-loop-line : goal.invariant-loop-line
invariant-loop-line l = l.lines.items ++ lines_from l.line (drop l.line l.ticks) (drop l.line l.chain) ≡ lines_from 0 l.ticks l.chain
