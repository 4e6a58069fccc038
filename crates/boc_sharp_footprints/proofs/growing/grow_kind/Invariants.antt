use Rattle.std.proofs.Common.{◌≡◌}
use Rattle.boc_sharp_footprints.proofs.growing.grow_kind.Given as goal

abbrev pub invariant-loop-step : goal.invariant-loop-step
invariant-loop-step l = l.table.by_kind ≡ l.initial.table.by_kind
