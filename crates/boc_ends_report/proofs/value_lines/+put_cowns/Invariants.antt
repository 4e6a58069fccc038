use Rattle.std.proofs.Common.{length}
use Rattle.boc_ends_report.proofs.value_lines.+put_cowns.Given as goal

abbrev pub decreases-put_cowns : goal.decreases-put_cowns
decreases-put_cowns l = length l.cowns.now
