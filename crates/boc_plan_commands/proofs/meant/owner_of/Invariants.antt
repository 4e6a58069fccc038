use Rattle.std.proofs.Common.{◌≡◌, ◌+◌, take, sum}
use Rattle.boc_plan_commands.proofs.meant.owner_of.Given as goal

-- what is left of the place behind the things of the owners so far
abbrev pub invariant-loop-index : goal.invariant-loop-index
invariant-loop-index l = l.left + sum (take l.index l.counts) ≡ l.place
