use Rattle.std.proofs.Common.{◌≡◌}
use Rattle.boc_sharp_footprints.proofs.growing.grow.Given as goal

abbrev pub invariant-loop-kind : goal.invariant-loop-kind
invariant-loop-kind l = l.table.by_kind ≡ l.initial.table.by_kind
