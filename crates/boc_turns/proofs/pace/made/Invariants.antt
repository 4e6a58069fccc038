use Rattle.std.proofs.Common.{◌≡◌, take}
use Rattle.std.specs.List.{fold}
use Rattle.boc_turns.specs.Pace.{later}
use Rattle.boc_turns.proofs.pace.made.Given as goal

-- the start that the waits so far allow
abbrev pub invariant-loop-wait : goal.invariant-loop-wait
invariant-loop-wait l = l.from ≡ fold (later l.ticks) l.start (take l.wait-index l.waits)
