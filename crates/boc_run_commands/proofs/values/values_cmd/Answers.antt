use Rattle.boc_run_commands.specs.Notes.{TellsValues}
use Rattle.boc_run_commands.proofs.Asked.{answers_text, stopped}
use Rattle.boc_run_commands.proofs.values.values_cmd.Goals as goal

pub returns-clause-written : goal.returns-clause-written
returns-clause-written g c = (
  c.deref-2.result.now,
  answers_text (TellsValues c.args.quiet c.in_ok-told.told.notes.items) _ _ c.in_ok-text.text.items c.deref.result.now c.in_ok-told.told.text.items
      c.deref-2.result.now c.in_ok-text.ensures.text c.deref.ensures.value c.deref-2.ensures.value c.in_ok-told.ensures.0 c.in_ok-told.ensures.1,
  c.in_ok-put_out.ensures.ok,
)

pub returns-in_err-put_out-clause-written : goal.returns-in_err-put_out-clause-written
returns-in_err-put_out-clause-written g c =
    stopped _ _ _ c.deref-2.result.now _ _ c.from_residual-in_err-put_out.ensures.1
    (answers_text (TellsValues c.args.quiet c.in_ok-told.told.notes.items) _ _ c.in_ok-text.text.items c.deref.result.now c.in_ok-told.told.text.items
    c.deref-2.result.now c.in_ok-text.ensures.text c.deref.ensures.value c.deref-2.ensures.value c.in_ok-told.ensures.0 c.in_ok-told.ensures.1)
    c.in_err-put_out.ensures.stopped
