use Rattle.std.proofs.Common.{◌≡◌, take}
use Rattle.boc_program.proofs.held.HeldCowns.widened.Given as goal

-- the cowns so far
abbrev pub invariant-loop-cown : goal.invariant-loop-cown
invariant-loop-cown l = l.cowns.items ≡ take l.cown-index l.cown-items
