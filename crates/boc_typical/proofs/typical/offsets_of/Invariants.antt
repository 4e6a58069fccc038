use Rattle.boc_typical.specs.Spread.{AreOffsetsTo}
use Rattle.boc_typical.proofs.typical.offsets_of.Given as goal

-- the offsets of the rows so far
abbrev pub invariant-loop-row : goal.invariant-loop-row
invariant-loop-row l = AreOffsetsTo l.rows l.middles l.row l.offsets.items l.lasts.items
