use Rattle.std.proofs.Common.{◌≡◌, ◌≤◌, ◌+◌, ◌*◌, ◌-◌, ◌++◌, ℕ, List, Option, length, take}
use Rattle.boc_record.specs.RecordTexts.{Second, event_lines}
use Rattle.boc_text.specs.Outgoing.{IsOut, size}
use Rattle.boc_record.specs.declared.text.TheConstants.{MOST_BYTES, ROOM}
use Rattle.boc_record.proofs.text.send_events.Given as goal

abbrev pub invariant-loop-first : goal.invariant-loop-first
invariant-loop-first g l = record {
  within : l.first ≤ length l.events;
  long : length l.room ≡ ROOM;
  out : (before : Option (List ℕ)) (start : List ℕ) → IsOut before (g.W.Sink.written l.initial.sink) start l.fn.text
      → IsOut before (g.W.Sink.written l.sink) (start ++ event_lines Second (take l.first l.events)) l.text;
  size : size l.text ≤ MOST_BYTES + MOST_BYTES * l.first;
  failures : g.W.Sink.failures l.sink ≡ g.W.Sink.failures l.initial.sink;
}

abbrev pub decreases-loop-first : goal.decreases-loop-first
decreases-loop-first g l = length l.events - l.first
