use Rattle.std.proofs.Common.{◌≡◌, ◌≤◌, ◌+◌, ◌*◌, ◌-◌, drop, take, length}
use Rattle.boc_record.specs.RecordTexts.{Second, event_lines}
use Rattle.boc_record.specs.declared.text.TheConstants.{MOST_BYTES, ROOM}
use Rattle.boc_record.proofs.text.lines_before.Given as goal

abbrev pub invariant-loop-place : goal.invariant-loop-place
invariant-loop-place l = record {
  ordered : l.first ≤ l.place;
  within : l.place ≤ l.behind;
  long : length l.room ≡ ROOM;
  written : drop l.begin l.room ≡ event_lines Second (take (l.behind - l.place) (drop l.place l.events));
  near : (l.begin ≤ ROOM) × (ROOM ≤ l.begin + MOST_BYTES * (l.behind - l.place));
}

abbrev pub decreases-loop-place : goal.decreases-loop-place
decreases-loop-place l = l.place
