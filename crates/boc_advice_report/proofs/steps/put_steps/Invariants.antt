use Rattle.std.proofs.Common.{◌≡◌, ◌+◌, ◌++◌, drop}
use Rattle.boc_advice_report.specs.StepsTexts.{steps_lines}
use Rattle.boc_advice_report.proofs.steps.put_steps.Given as goal

-- the lines so far, and those that are left
abbrev pub invariant-loop-place : goal.invariant-loop-place
invariant-loop-place l = record {
  sides : l.table.sides ≡ l.fn.table.sides;
  lines : l.table.lines ++ steps_lines l.names l.now (l.place + 1) l.was (drop l.place l.steps)
      ≡ l.fn.table.lines ++ steps_lines l.names l.now 1 l.now l.steps;
}
