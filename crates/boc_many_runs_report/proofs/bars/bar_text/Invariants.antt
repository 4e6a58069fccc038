use Rattle.std.proofs.Common.{◌≡◌, replicate}
use Rattle.boc_many_runs_report.proofs.bars.bar_text.Given as goal

-- the signs so far
abbrev pub invariant-loop : goal.invariant-loop
invariant-loop l = l.text.items ≡ replicate l.counter 35
