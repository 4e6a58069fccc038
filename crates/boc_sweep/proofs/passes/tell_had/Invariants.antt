use Rattle.boc_sweep.proofs.Passing.{SomeHad}
use Rattle.boc_sweep.proofs.passes.tell_had.Given as goal

-- the cowns of the row so far are told
abbrev pub invariant-loop-own : goal.invariant-loop-own
invariant-loop-own l = SomeHad l.rows l.row l.own-index l.had
