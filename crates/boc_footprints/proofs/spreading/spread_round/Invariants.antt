use Rattle.std.proofs.Common.{◌≡◌, drop}
use Rattle.boc_footprints.specs.Spreading.{after_spawns}
use Rattle.boc_footprints.proofs.spreading.spread_round.Given as goal

abbrev pub invariant-loop-spawn : goal.invariant-loop-spawn
invariant-loop-spawn l = after_spawns l.marks (drop l.spawn-index l.all) ≡ after_spawns l.initial.marks l.all
