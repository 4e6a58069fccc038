use Rattle.boc_turns.proofs.Adding.{SomeAdded}
use Rattle.boc_turns.proofs.ticks.add_ticks.Given as goal

-- the ticks are added for the cowns so far
abbrev pub invariant-loop-place : goal.invariant-loop-place
invariant-loop-place l = SomeAdded l.rows l.row l.uses l.place l.fn.totals l.totals
