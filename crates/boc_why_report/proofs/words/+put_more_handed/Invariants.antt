use Rattle.std.proofs.Common.{length}
use Rattle.boc_why_report.proofs.words.+put_more_handed.Given as goal

-- how many cowns are left
abbrev pub decreases-put_more_handed : goal.decreases-put_more_handed
decreases-put_more_handed l = length l.cowns.now
