use Rattle.std.proofs.Common.{◌≤◌, length}
use Rattle.std.specs.Prelude.{vec_capacity}
use Rattle.boc_order.proofs.LeastSpawns.{AreSpawned}
use Rattle.boc_order.proofs.least.spawn_plan.Given as goal

-- the rows so far start at their spawns
abbrev pub invariant-loop-row : goal.invariant-loop-row
invariant-loop-row l = record {
  spawned : AreSpawned l.rows l.starts.items l.row l.latest;
  room : length l.rows ≤ vec_capacity l.starts;
}
