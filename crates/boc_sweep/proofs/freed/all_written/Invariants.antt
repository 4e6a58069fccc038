use Rattle.boc_sweep.specs.Freed.{TellWritten}
use Rattle.boc_sweep.proofs.freed.all_written.Given as goal

-- the cowns of the rows so far are told
abbrev pub invariant-loop-row : goal.invariant-loop-row
invariant-loop-row l = TellWritten l.rows l.row l.written.items
