use Rattle.std.proofs.Common.{◌≡◌, length, take}
use Rattle.boc_program.proofs.held.HeldCowns.of.Given as goal

-- the cowns so far stand first
abbrev pub invariant-loop-place : goal.invariant-loop-place
invariant-loop-place l = (take l.place l.numbers ≡ take l.place l.cowns.items) × (length l.numbers ≡ 8)
