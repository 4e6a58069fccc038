use Rattle.std.proofs.Common.{◌≡◌, drop}
use Rattle.std.specs.List.{list_any}
use Rattle.boc_footprints.specs.Spreading.{is_marked}
use Rattle.boc_choices.proofs.holding.has_one.Given as goal

abbrev pub invariant-loop-place : goal.invariant-loop-place
invariant-loop-place l = list_any (is_marked l.marks) (drop l.place-index l.places) ≡ list_any (is_marked l.marks) l.places
