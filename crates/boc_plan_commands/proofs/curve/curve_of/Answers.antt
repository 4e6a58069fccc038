use Rattle.boc_run_commands.proofs.Asked.{out_of_memory, stopped}
use Rattle.boc_plan_commands.proofs.ToldParts.{curve_made}
use Rattle.boc_plan_commands.proofs.curve.curve_of.Goals as goal

pub returns-clause-written : goal.returns-clause-written
returns-clause-written g c = (
  c.deref-2.result.now,
  curve_made c.args.sharing c.in_ok-question.question.sharing c.args.most c.args.rows c.in_ok-question.question.rows c.work.result
      c.span.result c.in_ok-points.points.items c.deref.result.now c.in_ok-answer.answer.items c.deref-2.result.now
      c.in_ok-question.ensures.rows c.in_ok-question.ensures.sharing c.work.ensures c.span.ensures c.in_ok-points.ensures
      c.deref.ensures.value c.in_ok-answer.ensures c.deref-2.ensures.value,
  c.in_ok-put_out.ensures.ok,
)

pub returns-in_err-put_out-clause-written : goal.returns-in_err-put_out-clause-written
returns-in_err-put_out-clause-written g c =
    stopped _ _ _ c.deref-2.result.now _ _ c.from_residual-in_err-put_out.ensures.1
    (curve_made c.args.sharing c.in_ok-question.question.sharing c.args.most c.args.rows c.in_ok-question.question.rows c.work.result
    c.span.result c.in_ok-points.points.items c.deref.result.now c.in_ok-answer.answer.items c.deref-2.result.now
    c.in_ok-question.ensures.rows c.in_ok-question.ensures.sharing c.work.ensures c.span.ensures c.in_ok-points.ensures
    c.deref.ensures.value c.in_ok-answer.ensures c.deref-2.ensures.value)
    c.in_err-put_out.ensures.stopped

pub returns-in_err-answer-clause-written : goal.returns-in_err-answer-clause-written
returns-in_err-answer-clause-written g c = out_of_memory _ _ _ c.from_residual-in_err-answer.ensures.1
