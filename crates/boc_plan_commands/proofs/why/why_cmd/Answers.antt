use Rattle.boc_plan_commands.specs.Tells.{TellsWhy}
use Rattle.boc_run_commands.proofs.Asked.{stopped}
use Rattle.boc_run_commands.proofs.TakenRuns.{answers_taken, refused_named_run}
use Rattle.boc_plan_commands.proofs.why.why_cmd.Goals as goal

pub returns-in_err-told-clause-refused : goal.returns-in_err-told-clause-refused
returns-in_err-told-clause-refused g c =
    refused_named_run g.G.Gate.always_on _ _ _ _ _ c.in_ok-text.text.items _ _ c.from_residual-in_err-told.ensures.1 c.in_ok-text.ensures.text
    c.in_err-told.ensures

pub returns-clause-written : goal.returns-clause-written
returns-clause-written g c = (
  c.deref.result.now,
  answers_taken (TellsWhy c.args.asked c.args.file.now c.args.bytes.items c.in_ok-told.told.notes.items) _ _
      c.in_ok-text.text.items c.in_ok-told.told.text.items c.deref.result.now c.in_ok-text.ensures.text c.in_ok-told.ensures.1 c.in_ok-told.ensures.0
      c.deref.ensures.value,
  c.in_ok-put_out.ensures.ok,
)

pub returns-in_err-put_out-clause-written : goal.returns-in_err-put_out-clause-written
returns-in_err-put_out-clause-written g c =
    stopped _ _ _ c.deref.result.now _ _ c.from_residual-in_err-put_out.ensures.1
    (answers_taken (TellsWhy c.args.asked c.args.file.now c.args.bytes.items c.in_ok-told.told.notes.items) _ _
    c.in_ok-text.text.items c.in_ok-told.told.text.items c.deref.result.now c.in_ok-text.ensures.text c.in_ok-told.ensures.1 c.in_ok-told.ensures.0
    c.deref.ensures.value)
    c.in_err-put_out.ensures.stopped
