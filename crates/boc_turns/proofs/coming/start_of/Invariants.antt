use Rattle.std.proofs.Common.{◌≡◌, take}
use Rattle.std.specs.List.{fold}
use Rattle.boc_turns.specs.Pace.{started}
use Rattle.boc_turns.proofs.coming.start_of.Given as goal

-- the start, as far as the cowns have been looked at
abbrev pub invariant-loop-cown : goal.invariant-loop-cown
invariant-loop-cown l = l.start ≡ fold started l.spawned (take l.cown-index l.coming)
