use Rattle.std.proofs.Common.{◌≡◌, map, take}
use Rattle.boc_follow.proofs.follower.copies_of.Given as goal

abbrev pub invariant-loop-row : goal.invariant-loop-row
invariant-loop-row l = l.copies.items ≡ map (λ row. row.instance) (take l.row l.rows)
