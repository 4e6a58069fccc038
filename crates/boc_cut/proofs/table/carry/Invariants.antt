use Rattle.boc_cut.specs.Spawned.{AreSameRows}
use Rattle.boc_cut.proofs.table.carry.Given as goal

abbrev pub invariant-loop-place : goal.invariant-loop-place
invariant-loop-place l = AreSameRows l.fn.rows l.rows
