use Rattle.std.proofs.Common.{◌≡◌, ◌++◌, ◌<◌, ◌^◌, All, length}
use Rattle.boc_plans.specs.Chains.{weight_of}
use Rattle.boc_why_report.specs.ChainTexts.{folded_legs, legs}
use Rattle.boc_why_report.proofs.folded.put_stretches.Given as goal

-- the lines so far and those of the steps that are left are all of them
abbrev pub invariant-loop-steps_left : goal.invariant-loop-steps_left
invariant-loop-steps_left l = record {
  sides : l.table.sides ≡ l.fn.table.sides;
  there : All (λ s. s.row < length l.starts) l.steps_left;
  whole : length l.links_left ≡ length l.steps_left;
  bounded : weight_of l.steps_left < 2 ^ 64;
  lines : l.table.lines ++ folded_legs l.names l.starts (legs l.steps_left l.links_left)
      ≡ l.fn.table.lines ++ folded_legs l.names l.starts (legs l.steps l.links);
}

abbrev pub decreases-loop-steps_left : goal.decreases-loop-steps_left
decreases-loop-steps_left l = length l.steps_left
