use Rattle.std.proofs.Common.{◌≡◌, ◌++◌, drop}
use Rattle.boc_remedies.specs.Together.{lines_of}
use Rattle.boc_remedies.proofs.together.lines_of.Given as goal

-- the lines so far, before those that are left
abbrev pub invariant-loop-place : goal.invariant-loop-place
invariant-loop-place l = l.lines.items ++ lines_of (drop l.place l.sets) (drop l.place l.left) ≡ lines_of l.sets l.left
