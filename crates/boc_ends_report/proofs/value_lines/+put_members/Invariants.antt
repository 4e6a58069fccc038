use Rattle.std.proofs.Common.{length}
use Rattle.boc_ends_report.proofs.value_lines.+put_members.Given as goal

abbrev pub decreases-put_members : goal.decreases-put_members
decreases-put_members l = length l.values.now
