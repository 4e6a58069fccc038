use Rattle.std.proofs.Common.{◌≡◌}
use Rattle.boc_sharp_footprints.proofs.making.close.Given as goal

abbrev pub invariant-loop : goal.invariant-loop
invariant-loop l = l.table.by_kind ≡ l.initial.table.by_kind
