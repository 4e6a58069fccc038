use Rattle.boc_remedies.proofs.InOrder.{IsLeft}
use Rattle.boc_many_runs.specs.Lines.{goes_before}
use Rattle.boc_many_runs.proofs.lines.place_of.Given as goal

-- it goes before none so far
abbrev pub invariant-loop-place : goal.invariant-loop-place
invariant-loop-place l = IsLeft (goes_before l.own) l.ranked l.place
