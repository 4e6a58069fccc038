use Rattle.boc_cut.specs.Spawned.{KeepsSpawned}
use Rattle.boc_cut.proofs.table.Table.kept.Given as goal

-- whatever text spawned the rows of the table spawned those that are kept
abbrev pub invariant-loop-place : goal.invariant-loop-place
invariant-loop-place l = KeepsSpawned l.self.rows.items l.self.uses.items l.rows.items l.uses.items
