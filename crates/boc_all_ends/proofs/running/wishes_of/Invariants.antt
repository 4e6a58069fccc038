use Rattle.std.proofs.Common.{◌-◌, length}
use Rattle.boc_eval.specs.Frames.{wishes_of as all_wishes}
use Rattle.boc_all_ends.proofs.Wishing.{Gathered}
use Rattle.boc_all_ends.proofs.running.wishes_of.Given as goal

abbrev pub invariant-loop-wish : goal.invariant-loop-wish
invariant-loop-wish l = Gathered l.fn.frame l.frame l.wishes.items

abbrev pub decreases-loop-wish : goal.decreases-loop-wish
decreases-loop-wish l = length (all_wishes l.fn.frame) - length l.wishes.items
