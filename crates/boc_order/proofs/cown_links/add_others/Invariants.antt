use Rattle.std.proofs.Common.{length, ◌-◌}
use Rattle.boc_order.proofs.CownLinked.{Passed}
use Rattle.boc_order.proofs.cown_links.add_others.Given as goal

-- the links so far are the row's, and were passed
abbrev pub invariant-loop-place : goal.invariant-loop-place
invariant-loop-place l = Passed l.links l.row l.cown l.from l.place l.fn.list.items l.list.items

abbrev pub decreases-loop-place : goal.decreases-loop-place
decreases-loop-place l = length l.links - l.place
