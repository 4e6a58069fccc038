use Rattle.std.proofs.Common.{ℕ, List, subst}
use Rattle.boc_several_commands.specs.WhyRuns.{IsOfWhyRuns, IsWhyRunsAnswer}
use Rattle.boc_run_commands.proofs.Asked.{answers_text, stopped}
use Rattle.boc_several_commands.proofs.ManyDrawn.{refused_runs}
use Rattle.boc_several_commands.proofs.why_runs.why_runs_cmd.Goals as goal

pub returns-in_err-told-clause-refused : goal.returns-in_err-told-clause-refused
returns-in_err-told-clause-refused g c =
    refused_runs c.args.asked _ _ c.in_ok-text.text.items _ _ c.from_residual-in_err-told.ensures.1 c.in_ok-text.ensures.text
    (subst (λ (t : List ℕ). IsOfWhyRuns c.args.asked t c.in_err-told.field-0.0) c.deref.ensures.value c.in_err-told.ensures)

pub returns-clause-written : goal.returns-clause-written
returns-clause-written g c = (
  c.deref-2.result.now,
  answers_text (IsWhyRunsAnswer c.args.asked) _ _ c.in_ok-text.text.items c.deref.result.now c.in_ok-told.told.text.items c.deref-2.result.now
      c.in_ok-text.ensures.text c.deref.ensures.value c.deref-2.ensures.value (record { many = c.in_ok-told.told.many; told = c.in_ok-told.ensures.0 }) c.in_ok-told.ensures.1,
  c.in_ok-put_out.ensures.ok,
)

pub returns-in_err-put_out-clause-written : goal.returns-in_err-put_out-clause-written
returns-in_err-put_out-clause-written g c =
    stopped _ _ _ c.deref-2.result.now _ _ c.from_residual-in_err-put_out.ensures.1
    (answers_text (IsWhyRunsAnswer c.args.asked) _ _ c.in_ok-text.text.items c.deref.result.now c.in_ok-told.told.text.items c.deref-2.result.now
    c.in_ok-text.ensures.text c.deref.ensures.value c.deref-2.ensures.value (record { many = c.in_ok-told.told.many; told = c.in_ok-told.ensures.0 }) c.in_ok-told.ensures.1)
    c.in_err-put_out.ensures.stopped
