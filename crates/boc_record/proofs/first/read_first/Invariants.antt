use Rattle.std.proofs.Common.{◌≡◌, ◌-◌, ◌+◌, ◌≤◌, ◌^◌, false}
use Rattle.boc_runs.specs.Legal.{entries}
use Rattle.boc_text.specs.Lines.{to_come}
use Rattle.boc_record.specs.Versions.{spelling}
use Rattle.boc_record.proofs.Known.{IsReading}
use Rattle.boc_record.proofs.first.read_first.Given as goal

abbrev pub invariant-loop-line : goal.invariant-loop-line
invariant-loop-line g l = record {
  reading : IsReading (spelling l.version) l.sink.cowns (λ log. l.sink.rows ≡ entries log) l.line (g.S.Source.remaining l.fn.source)
      (to_come l.lines (g.S.Source.remaining l.source));
  not_over : l.lines.is_over ≡ false;
  failures : g.S.Source.failures l.source ≡ g.S.Source.failures l.fn.source;
  above : 2 ≤ l.line;
  within : l.line ≤ l.count + 2;
}

abbrev pub decreases-loop-line : goal.decreases-loop-line
decreases-loop-line g l = 2 ^ 64 - l.line
