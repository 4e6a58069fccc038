use Rattle.std.proofs.Common.{◌≡◌, take, true}
use Rattle.boc_remedies.specs.Together.{leaves_less}
use Rattle.boc_remedies.proofs.together.leaves_less.Given as goal

-- it leaves less than each smaller set so far
abbrev pub invariant-loop-other : goal.invariant-loop-other
invariant-loop-other l = leaves_less (take l.other-index l.looked) l.own ≡ true
