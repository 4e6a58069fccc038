use Rattle.std.proofs.Common.{length}
use Rattle.boc_cowns_report.proofs.verdict.+last_busy.Given as goal

abbrev pub decreases-last_busy : goal.decreases-last_busy
decreases-last_busy l = length l.others.now
