use Rattle.std.proofs.Common.{◌≡◌, ◌≤◌, ◌+◌, ◌*◌, ◌-◌, length}
use Rattle.boc_text.specs.Outgoing.{size}
use Rattle.boc_text.proofs.Sending.{HasPut}
use Rattle.boc_report.specs.ByLine.{lines_from}
use Rattle.boc_report.specs.declared.by_line.TheConstants.{LINES_ROOM, MOST_LINE}
use Rattle.boc_report.proofs.by_line.put_lines.Given as goal

abbrev pub invariant-loop-first : goal.invariant-loop-first
invariant-loop-first g l = record {
  within : l.first ≤ l.count;
  long : length l.room ≡ LINES_ROOM;
  came : HasPut (lines_from (g.L.Lines.line l.lines) 0 l.first) l.fn.out l.out (g.W.Sink.written l.initial.sink) (g.W.Sink.written l.sink);
  size : size l.out ≤ size l.fn.out + MOST_LINE * l.first;
  failures : g.W.Sink.failures l.sink ≡ g.W.Sink.failures l.initial.sink;
}

abbrev pub decreases-loop-first : goal.decreases-loop-first
decreases-loop-first g l = l.count - l.first
