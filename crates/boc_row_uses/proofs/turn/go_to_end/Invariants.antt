use Rattle.std.proofs.Common.{◌≡◌, ◌-◌, length}
use Rattle.boc_eval.specs.Frames.{wishes_of}
use Rattle.boc_row_uses.proofs.turn.go_to_end.Given as goal

abbrev pub invariant-loop : goal.invariant-loop
invariant-loop l = l.frame ≡ record l.fn.frame { made = l.frame.made }

abbrev pub decreases-loop : goal.decreases-loop
decreases-loop l = length (wishes_of l.fn.frame) - l.frame.made
