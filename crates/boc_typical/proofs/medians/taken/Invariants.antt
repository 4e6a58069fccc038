use Rattle.std.proofs.Common.{◌≡◌, take}
use Rattle.boc_typical.specs.Taken.{taken}
use Rattle.boc_typical.proofs.medians.taken.Given as goal

-- the rows so far
abbrev pub invariant-loop-place : goal.invariant-loop-place
invariant-loop-place l = l.all.items ≡ taken (take l.place l.rows) (take l.place l.defs)
