use Rattle.std.proofs.Common.{◌≡◌, ◌++◌, length, drop}
use Rattle.boc_footprints.specs.Spreading.{spawned_by}
use Rattle.boc_footprints.proofs.spreading.spawns_of.Given as goal

abbrev pub invariant-loop-kind : goal.invariant-loop-kind
invariant-loop-kind l = l.all.items ++ spawned_by (length l.bodies) l.kind (drop l.kind l.bodies) ≡ spawned_by (length l.bodies) 0 l.bodies
