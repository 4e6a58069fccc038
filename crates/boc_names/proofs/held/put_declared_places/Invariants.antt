use Rattle.std.proofs.Common.{◌≡◌, ◌++◌}
use Rattle.boc_names.specs.Names.{member_places}
use Rattle.boc_names.proofs.held.put_declared_places.Given as goal

abbrev pub invariant-loop-member : goal.invariant-loop-member
invariant-loop-member l = l.places.items ≡ l.initial.places.items ++ member_places l.declaration 0 l.member
