use Rattle.std.proofs.Common.{◌≡◌, length}
use Rattle.boc_runs.specs.Legal.{life_of, entry_cowns}
use Rattle.boc_stalled.specs.Stalled.{WaitsFor, AreThose}
use Rattle.boc_stalled.proofs.Waiting.{AreMarked}
use Rattle.boc_stalled.proofs.stalled.rows_that_wait_for.Given as goal

-- those of the rows so far, and the cowns that they and the first one have
abbrev pub invariant-loop-row : goal.invariant-loop-row
invariant-loop-row l = record {
  those : AreThose (WaitsFor (life_of l.run.rows) (entry_cowns l.run.rows) l.first) l.row l.those.items;
  marked : AreMarked (life_of l.run.rows) (entry_cowns l.run.rows) l.first l.row l.marks;
  all : length l.marks ≡ 256;
}
