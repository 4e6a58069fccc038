use Rattle.std.proofs.Common.{◌≡◌}
use Rattle.boc_why.proofs.LeftOutCowns.{freed_by, is_out}
use Rattle.boc_why.proofs.causes.freed.Given as goal

-- the row without those of its cowns so far that are marked
abbrev pub invariant-loop-cown : goal.invariant-loop-cown
invariant-loop-cown l = l.left ≡ freed_by (is_out l.is_left_out l.row.cowns.items l.cown-index) l.row
