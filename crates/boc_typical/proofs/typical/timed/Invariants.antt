use Rattle.boc_typical.specs.Spread.{AreTimedTo}
use Rattle.boc_typical.proofs.typical.timed.Given as goal

-- the rows so far
abbrev pub invariant-loop-place : goal.invariant-loop-place
invariant-loop-place l = AreTimedTo l.rows l.middles l.offsets l.lasts l.place l.list.items
