use Rattle.std.proofs.Common.{◌≡◌, drop}
use Rattle.std.specs.List.{list_any}
use Rattle.boc_front_rows.specs.Lists.{wished}
use Rattle.boc_choices.specs.Holding.{has_cown}
use Rattle.boc_choices.proofs.holding.meets_one.Given as goal

abbrev pub invariant-loop-cown : goal.invariant-loop-cown
invariant-loop-cown l =
    list_any (has_cown l.table (wished l.far)) (drop l.cown-index l.cowns) ≡ list_any (has_cown l.table (wished l.far)) l.cowns
