use Rattle.std.proofs.Common.{◌≡◌, drop}
use Rattle.boc_front_rows.specs.Rows.{plains}
use Rattle.boc_choices.specs.Holding.{are_apart}
use Rattle.boc_choices.proofs.holding.are_apart.Given as goal

abbrev pub invariant-loop-place : goal.invariant-loop-place
invariant-loop-place l =
    are_apart l.table l.lists l.marks l.cowns l.place (plains (drop l.place l.live)) ≡ are_apart l.table l.lists l.marks l.cowns 0 (plains l.live)
