use Rattle.std.proofs.Common.{take}
use Rattle.boc_why.specs.Causes.{AreMarks}
use Rattle.boc_why.proofs.causes.marks_of.Given as goal

-- the marks of the cowns so far
abbrev pub invariant-loop-cown : goal.invariant-loop-cown
invariant-loop-cown l = AreMarks (take l.cown-index l.cowns) l.marks.items
