use Rattle.boc_runs.specs.Lives.{MayStart}
use Rattle.boc_runs.specs.Legal.{life_of, entry_cowns}
use Rattle.boc_stalled.specs.Stalled.{AreThose}
use Rattle.boc_stalled.proofs.stalled.rows_that_could_start.Given as goal

-- those of the rows so far
abbrev pub invariant-loop-row : goal.invariant-loop-row
invariant-loop-row l = AreThose (MayStart (life_of l.run.rows) (entry_cowns l.run.rows)) l.row l.those.items
