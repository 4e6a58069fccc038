use Rattle.boc_end_orders.proofs.Trails.{IsRead}
use Rattle.boc_end_orders.proofs.trail.followed.Given as goal

-- the links so far were read
abbrev pub invariant-loop-left : goal.invariant-loop-left
invariant-loop-left l = IsRead l.links l.number l.left l.parents.items

abbrev pub decreases-loop-left : goal.decreases-loop-left
decreases-loop-left l = l.left
