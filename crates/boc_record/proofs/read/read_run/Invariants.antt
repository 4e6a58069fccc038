use Rattle.std.proofs.Common.{◌≡◌, ◌-◌, ◌^◌, false}
use Rattle.boc_text.specs.Lines.{to_come}
use Rattle.boc_record.specs.Versions.{spelling}
use Rattle.boc_record.proofs.Known.{IsReading}
use Rattle.boc_record.proofs.read.read_run.Given as goal

abbrev pub invariant-loop-event : goal.invariant-loop-event
invariant-loop-event g l = record {
  reading : IsReading (spelling l.version) (g.E.EventSink.cown_count l.sink) (g.E.EventSink.has_taken l.sink) l.line (g.S.Source.remaining l.fn.source)
      (to_come l.lines (g.S.Source.remaining l.source));
  not_over : l.lines.is_over ≡ false;
  failures : g.S.Source.failures l.source ≡ g.S.Source.failures l.fn.source;
}

abbrev pub decreases-loop-event : goal.decreases-loop-event
decreases-loop-event g l = 2 ^ 64 - l.line
