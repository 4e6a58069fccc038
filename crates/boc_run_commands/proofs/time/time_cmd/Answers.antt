use Rattle.std.proofs.Common.{ℕ, List, Option, Some, None, refl, sym, subst}
use Rattle.std.proofs.lemmas.List.{append-nil}
use Rattle.boc_busy.specs.declared.timed.TimedRows.{TimedRows}
use Rattle.boc_run_commands.specs.Commands.{IsOfRun}
use Rattle.boc_runs.specs.declared.rows.Row.{Row}
use Rattle.boc_plans.specs.Seen.{seen}
use Rattle.boc_run_commands.specs.Notes.{TellsTime}
use Rattle.boc_run_commands.specs.Promises.{IsTrueReport}
use Rattle.boc_run_commands.specs.Schedules.{AreTimesText}
use Rattle.boc_run_commands.proofs.Asked.{answers_text, leaves_as}
use Rattle.boc_run_commands.proofs.Passed.{refused_run}
use Rattle.boc_run_commands.proofs.time.time_cmd.Goals as goal

pub returns-in_err-noted-clause-refused : goal.returns-in_err-noted-clause-refused
returns-in_err-noted-clause-refused g c =
    refused_run _ _ _ _ c.in_ok-text.text.items _ _ c.from_residual-in_err-noted.ensures.1 c.in_ok-text.ensures.text
    (subst (λ (t : List ℕ). IsOfRun g.G.Gate.always_on c.args.schedule t c.in_err-noted.field-0.0) c.deref.ensures.value c.in_err-noted.ensures)

pub returns-in-None-clause-written : goal.returns-in-None-clause-written
returns-in-None-clause-written g c =
    let run = c.in_ok-noted.ensures in
    leaves_as (IsTrueReport (seen c.args.sharing c.into_rows-rows.result) c.args.plans) _ c.true_report.result _ _ (λ text report.
    answers_text (TellsTime c.args.schedule c.args.sharing c.args.plans c.args.quiet c.in_ok-noted.noted.notes.items) _ _
    c.in_ok-text.text.items c.deref.result.now text text c.in_ok-text.ensures.text c.deref.ensures.value refl
    (record {
      report = text;
      answer = record {
        recorded = c.in_ok-noted.noted.record;
        run = run.0;
        report = subst (λ (rows : List Row). IsTrueReport (seen c.args.sharing rows) c.args.plans text) c.into_rows-rows.ensures.value report;
      };
      times = None;
      times_are = subst (λ (times : Option TimedRows). AreTimesText c.deref.result.now c.args.schedule c.in_ok-noted.noted.record.rows times) c.in-None.is
          run.4;
      text = sym (append-nil text);
      scheduled = run.1;
      noted = run.2;
    }) run.3) c.true_report.ensures.written

pub returns-clause-written : goal.returns-clause-written
returns-clause-written g c =
    let run = c.in_ok-noted.ensures in
    leaves_as _ _ c.timed_report.result _ _ (λ text left.
    answers_text (TellsTime c.args.schedule c.args.sharing c.args.plans c.args.quiet c.in_ok-noted.noted.notes.items) _ _
    c.in_ok-text.text.items c.deref.result.now text text c.in_ok-text.ensures.text c.deref.ensures.value refl
    (record {
      report = left.0;
      answer = record {
        recorded = c.in_ok-noted.noted.record;
        run = run.0;
        report = subst (λ (rows : List Row). IsTrueReport (seen c.args.sharing rows) c.args.plans left.0) c.into_rows-rows.ensures.value left.1;
      };
      times = Some c.in-Some.times;
      times_are = subst (λ (times : Option TimedRows). AreTimesText c.deref.result.now c.args.schedule c.in_ok-noted.noted.record.rows times) c.in-Some.is
          run.4;
      text = left.2;
      scheduled = run.1;
      noted = run.2;
    }) run.3) c.timed_report.ensures.written
