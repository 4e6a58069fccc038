use Rattle.std.proofs.Common.{length}
use Rattle.boc_report.proofs.curve_lines.+put_points.Given as goal

abbrev pub decreases-put_points : goal.decreases-put_points
decreases-put_points l = length l.points.now
