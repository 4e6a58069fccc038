use Rattle.std.proofs.Common.{◌≡◌, ◌++◌, take}
use Rattle.boc_record.specs.RecordTexts.{Second, event_lines}
use Rattle.boc_record.proofs.text.put_events.Given as goal

abbrev pub invariant-loop-place : goal.invariant-loop-place
invariant-loop-place l = l.text.items ≡ l.fn.text.items ++ event_lines Second (take l.place l.events)
