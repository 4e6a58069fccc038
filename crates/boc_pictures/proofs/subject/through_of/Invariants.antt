use Rattle.std.proofs.Common.{length}
use Rattle.boc_pictures.proofs.Showing.{AreThrough}
use Rattle.boc_pictures.proofs.subject.through_of.Given as goal

-- the steps so far
abbrev pub invariant-loop-step : goal.invariant-loop-step
invariant-loop-step l = AreThrough (length l.rows) l.steps l.step-index l.through.items
