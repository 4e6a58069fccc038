use Rattle.std.proofs.Common.{◌≡◌, ◌≤◌, ◌+◌, ◌*◌}
use Rattle.boc_text.specs.Outgoing.{size}
use Rattle.boc_text.proofs.Sending.{HasPut}
use Rattle.boc_report.specs.declared.profile_lines.TheConstants.{MOST_STEP}
use Rattle.boc_report.proofs.Lines.{steps_to}
use Rattle.boc_report.proofs.profile_lines.put_steps.Given as goal

abbrev pub invariant-loop-step : goal.invariant-loop-step
invariant-loop-step g l = record {
  came : HasPut (steps_to l.steps l.step-index) l.fn.out l.out (g.W.Sink.written l.initial.sink) (g.W.Sink.written l.sink);
  size : size l.out ≤ size l.fn.out + MOST_STEP * l.step-index;
  failures : g.W.Sink.failures l.sink ≡ g.W.Sink.failures l.initial.sink;
}
