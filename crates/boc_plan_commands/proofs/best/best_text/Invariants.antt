use Rattle.std.proofs.Common.{◌≡◌, take}
use Rattle.boc_plan_commands.specs.BestAnswers.{best_lines}
use Rattle.boc_plan_commands.proofs.best.best_text.Given as goal

-- the lines of the ends so far
abbrev pub invariant-loop-own : goal.invariant-loop-own
invariant-loop-own l = l.text.items ≡ best_lines l.was l.first (take l.own-index l.best)
