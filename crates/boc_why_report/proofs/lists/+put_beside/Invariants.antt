use Rattle.std.proofs.Common.{◌+◌, length}
use Rattle.boc_why_report.proofs.lists.+put_beside.Given as goal

-- how many lines are left on both sides
abbrev pub decreases-put_beside : goal.decreases-put_beside
decreases-put_beside l = length l.left.now + length l.right.now
