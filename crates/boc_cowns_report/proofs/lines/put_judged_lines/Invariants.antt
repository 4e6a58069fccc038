use Rattle.std.proofs.Common.{◌≡◌, ◌++◌, take}
use Rattle.boc_cowns_report.specs.CownsTexts.{judged_lines}
use Rattle.boc_cowns_report.proofs.lines.put_judged_lines.Given as goal

-- the lines of the cowns so far
abbrev pub invariant-loop-own : goal.invariant-loop-own
invariant-loop-own l = record {
  sides : l.table.sides ≡ l.fn.table.sides;
  lines : l.table.lines ≡ l.fn.table.lines ++ judged_lines l.names l.span (take l.own-index l.cowns);
}
