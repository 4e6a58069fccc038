use Rattle.std.proofs.Common.{◌≡◌}
use Rattle.boc_sharp_footprints.specs.Tables.{marked_up, reaches_with}
use Rattle.boc_sharp_footprints.proofs.following.mark_reached.Given as goal

abbrev pub invariant-loop-cown : goal.invariant-loop-cown
invariant-loop-cown l = l.marks ≡ marked_up (reaches_with l.table l.kind l.value) l.cown l.initial.marks
