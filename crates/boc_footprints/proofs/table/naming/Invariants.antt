use Rattle.std.proofs.Common.{◌≡◌, ◌++◌, drop}
use Rattle.boc_footprints.specs.Tables.{naming}
use Rattle.boc_footprints.proofs.table.naming.Given as goal

abbrev pub invariant-loop-body : goal.invariant-loop-body
invariant-loop-body l = l.marks.items ++ naming l.cown (drop l.body-index l.bodies) ≡ naming l.cown l.bodies
