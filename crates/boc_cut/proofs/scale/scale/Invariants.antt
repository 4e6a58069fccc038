use Rattle.std.proofs.Common.{◌≤◌}
use Rattle.boc_cut.proofs.scale.scale.Given as goal

abbrev pub invariant-loop : goal.invariant-loop
invariant-loop l = 1 ≤ l.divisor
