use Rattle.std.proofs.Common.{ℕ, List, refl, subst}
use Rattle.boc_runs.specs.Records.{Recorded}
use Rattle.boc_record.specs.RecordTexts.{Second, record_text}
use Rattle.boc_run_commands.proofs.Asked.{answers_text, unwritten}
use Rattle.boc_all_ends_commands.specs.EndRunAnswers.{IsEndRunAnswer, IsOfEndRun}
use Rattle.boc_all_ends_commands.proofs.EndRuns.{refused_end_run}
use Rattle.boc_all_ends_commands.proofs.end_run.end_run_cmd.Goals as goal

pub returns-in_err-run-clause-refused : goal.returns-in_err-run-clause-refused
returns-in_err-run-clause-refused g c =
    refused_end_run c.args.most c.args.number _ _ c.in_ok-text.text.items _ _ c.from_residual-in_err-run.ensures.1 c.in_ok-text.ensures.text
    (subst (λ (t : List ℕ). IsOfEndRun c.args.most c.args.number t c.in_err-run.field-0.0) c.deref.ensures.value c.in_err-run.ensures)

pub returns-clause-written : goal.returns-clause-written
returns-clause-written g c =
    let run = c.in_ok-run.ensures in
    let text : List ℕ = record_text Second c.in_ok-run.run'.cowns c.in_ok-run.run'.events in (
      text,
      answers_text (IsEndRunAnswer c.args.most c.args.number) _ _ c.in_ok-text.text.items c.deref.result.now text text
          c.in_ok-text.ensures.text c.deref.ensures.value refl (record { recorded = c.in_ok-run.run'; run = run.0; text = refl }) run.1,
      c.in_ok-write_record.ensures.written,
    )

pub returns-in_err-write_record-clause-written : goal.returns-in_err-write_record-clause-written
returns-in_err-write_record-clause-written g c =
    let run = c.in_ok-run.ensures in
    let text : List ℕ = record_text Second c.in_ok-run.run'.cowns c.in_ok-run.run'.events in
    unwritten _ _ c.in_err-write_record.field-0.0 text _ _ c.from_residual-in_err-write_record.ensures.1
    (answers_text (IsEndRunAnswer c.args.most c.args.number) _ _ c.in_ok-text.text.items c.deref.result.now text text
    c.in_ok-text.ensures.text c.deref.ensures.value refl (record { recorded = c.in_ok-run.run'; run = run.0; text = refl }) run.1)
    c.in_err-write_record.ensures.written
