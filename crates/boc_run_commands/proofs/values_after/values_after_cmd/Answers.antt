use Rattle.std.proofs.Common.{ℕ, List, subst}
use Rattle.boc_run_commands.specs.Beside.{IsOfValuesAfter}
use Rattle.boc_run_commands.specs.Notes.{TellsValuesAfter}
use Rattle.boc_run_commands.proofs.Asked.{answers_text, stopped}
use Rattle.boc_run_commands.proofs.BesideFiles.{refused_after}
use Rattle.boc_run_commands.proofs.values_after.values_after_cmd.Goals as goal

pub returns-in_err-told-clause-refused : goal.returns-in_err-told-clause-refused
returns-in_err-told-clause-refused g c =
    refused_after c.args.record_text.items _ c.in_err-told.field-0.0 c.in_ok-text.text.items _ _ c.from_residual-in_err-told.ensures.1
    c.in_ok-text.ensures.text
    (subst (λ (text : List ℕ). IsOfValuesAfter c.args.record_text.items text c.in_err-told.field-0.0) c.deref.ensures.value c.in_err-told.ensures)

pub returns-clause-written : goal.returns-clause-written
returns-clause-written g c = (
  c.deref-2.result.now,
  answers_text (TellsValuesAfter c.args.record_text.items c.args.quiet c.in_ok-told.told.notes.items) _ _ c.in_ok-text.text.items c.deref.result.now
      c.in_ok-told.told.text.items c.deref-2.result.now c.in_ok-text.ensures.text c.deref.ensures.value c.deref-2.ensures.value c.in_ok-told.ensures.0
      c.in_ok-told.ensures.1,
  c.in_ok-put_out.ensures.ok,
)

pub returns-in_err-put_out-clause-written : goal.returns-in_err-put_out-clause-written
returns-in_err-put_out-clause-written g c =
    stopped _ _ _ c.deref-2.result.now _ _ c.from_residual-in_err-put_out.ensures.1
    (answers_text (TellsValuesAfter c.args.record_text.items c.args.quiet c.in_ok-told.told.notes.items) _ _ c.in_ok-text.text.items c.deref.result.now
    c.in_ok-told.told.text.items c.deref-2.result.now c.in_ok-text.ensures.text c.deref.ensures.value c.deref-2.ensures.value c.in_ok-told.ensures.0
    c.in_ok-told.ensures.1)
    c.in_err-put_out.ensures.stopped
