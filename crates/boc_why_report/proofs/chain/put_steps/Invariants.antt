use Rattle.std.proofs.Common.{◌≡◌, ◌++◌, map, take}
use Rattle.boc_why_report.specs.ChainTexts.{leg_texts, legs}
use Rattle.boc_why_report.proofs.chain.put_steps.Given as goal

-- the lines so far
abbrev pub invariant-loop-place : goal.invariant-loop-place
invariant-loop-place l = record {
  sides : l.table.sides ≡ l.fn.table.sides;
  lines : l.table.lines ≡ l.fn.table.lines ++ map (leg_texts l.names l.starts) (take l.place (legs l.steps l.links));
}
