use Rattle.std.proofs.Common.{◌≡◌, ◌≤◌, drop, replicate, sum, take}
use Rattle.boc_lines.specs.Lines.{line_charges}
use Rattle.boc_lines.specs.Books.{tally}
use Rattle.boc_lines.proofs.by_line.summed.Given as goal

abbrev pub invariant-loop-i : goal.invariant-loop-i
invariant-loop-i l = record {
  so_far : tally l.counts.items (line_charges (drop l.i l.lines) (drop l.i l.ticks)) ≡ tally (replicate l.ends 0) (line_charges l.lines l.ticks);
  few : sum l.counts.items ≤ sum (take l.i l.ticks);
}
