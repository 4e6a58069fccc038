use Rattle.std.proofs.Common.{take}
use Rattle.boc_stalled.proofs.Marking.{AreMarksOf}
use Rattle.boc_stalled.proofs.marks.mark.Given as goal

-- the cowns so far are marked
abbrev pub invariant-loop-cown : goal.invariant-loop-cown
invariant-loop-cown l = AreMarksOf l.fn.marks (take l.cown-index l.cowns) l.marks
