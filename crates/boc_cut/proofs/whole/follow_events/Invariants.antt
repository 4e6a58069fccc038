use Rattle.std.proofs.Common.{◌≡◌, ◌-◌, ◌^◌, length, false}
use Rattle.boc_stream.specs.LongLines.{to_come}
use Rattle.boc_stream.specs.StreamTexts.{spelling}
use Rattle.boc_cut.proofs.Records.{IsRecordSoFar}
use Rattle.boc_cut.proofs.whole.follow_events.Given as goal

-- the lines so far are those of a record, and nothing of it went into the table
abbrev pub invariant-loop-rules : goal.invariant-loop-rules
invariant-loop-rules g l = record {
  so_far : IsRecordSoFar (spelling l.header.version) l.header.cowns l.rules (to_come l.fn.stream.lines (g.S.Source.remaining l.fn.source))
      (to_come l.stream.lines (g.S.Source.remaining l.source));
  not_over : l.stream.lines.is_over ≡ false;
  rows : l.table.rows.items ≡ l.fn.table.rows.items;
  uses : l.table.uses.items ≡ l.fn.table.uses.items;
  failures : g.S.Source.failures l.source ≡ g.S.Source.failures l.fn.source;
}

-- how many events there may be still
abbrev pub decreases-loop-rules : goal.decreases-loop-rules
decreases-loop-rules g l = 2 ^ 18 - length l.rules.events
