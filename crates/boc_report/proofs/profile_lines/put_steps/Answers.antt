use Rattle.std.proofs.Common.{◌∙◌, arith}
use Rattle.std.proofs.lemmas.Bool.Decides.{nat_tests}
use Rattle.boc_report.specs.declared.profile_lines.TheConstants.{MOST_STEP}
use Rattle.boc_report.proofs.ByLines.{line_put, lines_stopped, lines_put}
use Rattle.boc_report.proofs.Lines.{no_step, steps_by_line}
use Rattle.boc_report.proofs.profile_lines.put_steps.Goals as goal

pub returns-in_err-put-clause-goes_on : goal.returns-in_err-put-clause-goes_on
returns-in_err-put-clause-goes_on g c =
    lines_stopped (steps_by_line c.args.steps.now no_step) c.loop-step.step-index c.from_residual.result _ c.args.out.now c.loop-step.out _
    (g.W.Sink.written c.args.sink.now) (g.W.Sink.written c.loop-step.sink) (g.W.Sink.written c.put.new.sink)
    (grind (arith, nat_tests)) c.loop-step.invariant.came c.in_err-put.ensures.goes_on c.from_residual.ensures.1

pub loop-step-preserved : goal.loop-step-preserved
loop-step-preserved g c = record {
  came = line_put (steps_by_line c.args.steps.now _) c.loop-step.step-index c.step_before-begin.new.room MOST_STEP c.step_before-begin.result c.args.out.now
      c.loop-step.out c.put.new.self
      _ _ _ (grind (arith, nat_tests)) c.loop-step.invariant.came (omega arith) c.step_before-begin.ensures.written c.in_ok-put.ensures.goes_on;
  size = omega (arith, c.in_ok-put.ensures.size);
  failures = c.in_ok-put.ensures.failures ∙ c.loop-step.invariant.failures;
}

pub returns-clause-goes_on : goal.returns-clause-goes_on
returns-clause-goes_on g c = lines_put (steps_by_line c.args.steps.now no_step) c.loop-step.step-index _ _ _ _ (omega arith) c.loop-step.invariant.came
