use Rattle.std.proofs.Common.{◌≡◌}
use Rattle.boc_sharp_footprints.specs.Known.{is_within}
use Rattle.boc_sharp_footprints.specs.Tables.{marked_up}
use Rattle.boc_sharp_footprints.proofs.referring.mark_range.Given as goal

abbrev pub invariant-loop-cown : goal.invariant-loop-cown
invariant-loop-cown l = l.marks ≡ marked_up (is_within l.range) l.cown l.initial.marks
