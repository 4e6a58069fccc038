use Rattle.std.proofs.Common.{length}
use Rattle.boc_all_ends.proofs.Adding.{Added}
use Rattle.boc_all_ends.proofs.stepper.add_wishes.Given as goal

abbrev pub invariant-loop-wish : goal.invariant-loop-wish
invariant-loop-wish l = Added l.fn.lists l.initial.wishes.items l.wishes.items l.lists l.list

abbrev pub decreases-loop-wish : goal.decreases-loop-wish
decreases-loop-wish l = length l.wishes.items
