use Rattle.boc_sweep.proofs.Freeing.{SomeTold}
use Rattle.boc_sweep.proofs.freed.tell_written.Given as goal

-- the cowns so far are told
abbrev pub invariant-loop-own : goal.invariant-loop-own
invariant-loop-own l = SomeTold l.rows l.row l.own-index l.written.items
