use Rattle.std.proofs.Common.{◌≡◌, ◌++◌, drop}
use Rattle.boc_front_rows.specs.Rows.{plains}
use Rattle.boc_choices.specs.Holding.{free_marked}
use Rattle.boc_choices.proofs.choosing.free_marked.Given as goal

abbrev pub invariant-loop-place : goal.invariant-loop-place
invariant-loop-place l =
    l.places.items ++ free_marked l.marks l.place (plains (drop l.place l.live)) ≡ free_marked l.marks 0 (plains l.live)
