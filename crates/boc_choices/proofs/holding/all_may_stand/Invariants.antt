use Rattle.std.proofs.Common.{◌≡◌, drop}
use Rattle.boc_front_rows.specs.Rows.{plains}
use Rattle.boc_choices.specs.Holding.{all_may_stand}
use Rattle.boc_choices.proofs.holding.all_may_stand.Given as goal

abbrev pub invariant-loop-place : goal.invariant-loop-place
invariant-loop-place l =
    all_may_stand l.table l.lists l.marks (plains l.live) l.place (plains (drop l.place l.live))
    ≡ all_may_stand l.table l.lists l.marks (plains l.live) 0 (plains l.live)
