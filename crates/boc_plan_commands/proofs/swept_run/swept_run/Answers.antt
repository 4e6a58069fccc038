use Rattle.boc_run_commands.proofs.Asked.{out_of_memory, stopped}
use Rattle.boc_plan_commands.proofs.SweptLines.{few_as, swept_as}
use Rattle.boc_plan_commands.proofs.swept_run.swept_run.Goals as goal

pub swept_text-requires : goal.swept_text-requires
swept_text-requires g c =
    (c.type_bounds.sync-R, few_as c.args.run.rows c.in_ok-question.question.rows c.args.run.names c.in_ok-question.ensures.rows c.requires.few)

pub returns-clause-written : goal.returns-clause-written
returns-clause-written g c = (
  c.deref.result.now,
  swept_as c.args.run.rows c.in_ok-question.question.rows c.args.run.names c.args.asked c.in_ok-question.question.sharing c.args.are_named
      c.in_ok-text.text.items c.deref.result.now c.in_ok-question.ensures.rows c.in_ok-question.ensures.sharing c.in_ok-text.ensures
      c.deref.ensures.value,
  c.in_ok-put_out.ensures.ok,
)

pub returns-in_err-put_out-clause-written : goal.returns-in_err-put_out-clause-written
returns-in_err-put_out-clause-written g c =
    stopped _ _ _ c.deref.result.now _ _ c.from_residual-in_err-put_out.ensures.1
    (swept_as c.args.run.rows c.in_ok-question.question.rows c.args.run.names c.args.asked c.in_ok-question.question.sharing c.args.are_named
    c.in_ok-text.text.items c.deref.result.now c.in_ok-question.ensures.rows c.in_ok-question.ensures.sharing c.in_ok-text.ensures
    c.deref.ensures.value)
    c.in_err-put_out.ensures.stopped

pub returns-in_err-text-clause-written : goal.returns-in_err-text-clause-written
returns-in_err-text-clause-written g c = out_of_memory _ _ _ c.from_residual-in_err-text.ensures.1
