use Rattle.std.proofs.Common.{take}
use Rattle.boc_remedies.specs.Questions.{asked}
use Rattle.boc_many_runs.specs.Runs.{AreBroughtBy}
use Rattle.boc_many_runs.proofs.brought.all_brought.Given as goal

-- what the remedies so far bring
abbrev pub invariant-loop-remedy : goal.invariant-loop-remedy
invariant-loop-remedy l = AreBroughtBy (asked l.question) (take l.remedy-index l.remedies) l.all.items
