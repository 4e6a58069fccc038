use Rattle.std.proofs.Common.{◌≡◌, ◌++◌, map, take}
use Rattle.boc_advice_report.specs.AdviceTexts.{candidate_texts}
use Rattle.boc_advice_report.proofs.candidates.put_listed.Given as goal

-- the lines so far
abbrev pub invariant-loop-own : goal.invariant-loop-own
invariant-loop-own l = record {
  sides : l.table.sides ≡ l.fn.table.sides;
  lines : l.table.lines ≡ l.fn.table.lines ++ map (candidate_texts l.names l.now) (take l.own-index l.listed);
}
