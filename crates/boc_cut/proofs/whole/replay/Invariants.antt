use Rattle.boc_cut.specs.Whole.{AreSpawnedBy}
use Rattle.boc_cut.proofs.whole.replay.Given as goal

-- the events so far were taken
abbrev pub invariant-loop-place : goal.invariant-loop-place
invariant-loop-place l = AreSpawnedBy l.rules.events l.fn.table.rows.items l.fn.table.uses.items l.table.rows.items l.table.uses.items
