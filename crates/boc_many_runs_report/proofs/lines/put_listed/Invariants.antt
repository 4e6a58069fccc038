use Rattle.std.proofs.Common.{◌≡◌, ◌++◌, map, take}
use Rattle.boc_many_runs_report.specs.ManyTexts.{remedy_line}
use Rattle.boc_many_runs_report.proofs.lines.put_listed.Given as goal

-- the lines so far
abbrev pub invariant-loop-own : goal.invariant-loop-own
invariant-loop-own l = record {
  sides : l.table.sides ≡ l.fn.table.sides;
  lines : l.table.lines ≡ l.fn.table.lines ++ map (remedy_line l.names) (take l.own-index l.listed);
}
