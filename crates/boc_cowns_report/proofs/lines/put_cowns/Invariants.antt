use Rattle.std.proofs.Common.{◌≡◌, ◌++◌, take}
use Rattle.boc_cowns_report.specs.CownsTexts.{cown_lines}
use Rattle.boc_cowns_report.proofs.lines.put_cowns.Given as goal

-- the lines of the cowns so far
abbrev pub invariant-loop-hot : goal.invariant-loop-hot
invariant-loop-hot l = record {
  sides : l.table.sides ≡ l.fn.table.sides;
  lines : l.table.lines ≡ l.fn.table.lines ++ cown_lines l.names l.span (take l.hot-index l.cowns);
}
