use Rattle.std.proofs.Common.{◌≡◌, true}
use Rattle.boc_many_runs.specs.Lines.{nearly_in_all}
use Rattle.boc_many_runs.proofs.lines.nearly_in_all.Given as goal

-- nearly as much in each run so far
abbrev pub invariant-loop-number : goal.invariant-loop-number
invariant-loop-number l = nearly_in_all l.column l.other l.number ≡ true
