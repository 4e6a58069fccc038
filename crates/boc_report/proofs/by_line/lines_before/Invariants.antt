use Rattle.std.proofs.Common.{◌≡◌, ◌≤◌, ◌+◌, ◌*◌, ◌-◌, drop, length}
use Rattle.boc_report.specs.ByLine.{lines_from}
use Rattle.boc_report.specs.declared.by_line.TheConstants.{LINES_ROOM, MOST_LINE}
use Rattle.boc_report.proofs.by_line.lines_before.Given as goal

abbrev pub invariant-loop-place : goal.invariant-loop-place
invariant-loop-place g l = record {
  within : (l.first ≤ l.place) × (l.place ≤ l.after);
  long : length l.room ≡ LINES_ROOM;
  written : drop l.begin l.room ≡ lines_from (g.L.Lines.line l.lines) l.place (l.after - l.place);
  near : (l.begin ≤ LINES_ROOM) × (LINES_ROOM ≤ l.begin + MOST_LINE * (l.after - l.place));
}

abbrev pub decreases-loop-place : goal.decreases-loop-place
decreases-loop-place g l = l.place
