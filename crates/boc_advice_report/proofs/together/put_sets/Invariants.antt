use Rattle.std.proofs.Common.{◌≡◌, ◌++◌, map, take}
use Rattle.boc_advice_report.specs.AdviceTexts.{together_line}
use Rattle.boc_advice_report.proofs.together.put_sets.Given as goal

-- the lines so far
abbrev pub invariant-loop-own : goal.invariant-loop-own
invariant-loop-own l = record {
  sides : l.table.sides ≡ l.fn.table.sides;
  lines : l.table.lines ≡ l.fn.table.lines ++ map (together_line l.names l.greedy) (take l.own-index l.listed);
}
