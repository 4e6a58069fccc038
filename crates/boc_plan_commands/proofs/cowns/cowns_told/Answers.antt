use Rattle.std.proofs.Common.{ℕ, List, Option, subst}
use Rattle.boc_names.specs.declared.names.Names.{Names}
use Rattle.boc_runs.specs.declared.rows.Row.{Row}
use Rattle.boc_run_commands.specs.Measured.{workers_measured}
use Rattle.boc_run_commands.specs.Notes.{AreWanted}
use Rattle.boc_run_commands.specs.TimedNotes.{IsOther, workers_compared}
use Rattle.boc_plan_commands.specs.CownsAnswers.{AreTold}
use Rattle.boc_plan_commands.specs.LongNotes.{AreLookedAt, ArePlanNotes}
use Rattle.boc_run_commands.proofs.MeasuredRuns.{measured_of}
use Rattle.boc_run_commands.proofs.Passed.{passed_on}
use Rattle.boc_run_commands.proofs.TakenRuns.{no_memory}
use Rattle.boc_plan_commands.proofs.cowns.cowns_told.Goals as goal

pub returns : goal.returns
returns g c =
    let has = c.in_ok-run.ensures.0 in
    let names = c.in_ok-run.run'.names in
    let measured = c.in_ok-measured.measured in
    let compared = workers_compared c.args.asked.schedule (workers_measured c.args.asked.typical c.args.asked.workers) c.args.file.now in
    let typical = c.args.asked.typical in
    let looked : AreLookedAt typical c.args.text.items c.are_looked_at-looked.result =
    subst (λ (text : List ℕ). AreLookedAt typical text c.are_looked_at-looked.result) c.deref-2.ensures.value c.are_looked_at-looked.ensures in
    let noted =
    subst (λ (rows : List Row). AreWanted c.args.asked.quiet (ArePlanNotes c.args.asked.sharing compared typical c.args.text.items names rows)
    c.in_ok-notes.notes.items) has.rows_are
    (c.in_ok-notes.ensures c.args.text.items compared typical
    (subst (λ (text : List ℕ). IsOther text compared c.in_ok-other.other) c.deref.ensures.value
    (subst (λ (workers : Option ℕ). IsOther c.deref.result.now (workers_compared c.args.asked.schedule workers c.args.file.now) c.in_ok-other.other)
    c.workers_measured-workers.ensures c.in_ok-other.ensures)) looked) in (
      record {
        answer = record {
          recorded = has.recorded;
          names = names;
          named = has.named;
          measured = measured.rows;
          measured_are = measured_of c.args.asked.typical _ c.in_ok-run.run' measured has c.in_ok-measured.ensures;
          told = subst (λ (called : Names). AreTold measured.rows called c.args.asked c.in_ok-text.text.items) c.in_ok-measured.ensures.names_are
              c.in_ok-text.ensures;
        };
        noted = noted;
      },
      c.in_ok-run.ensures.1,
    )

pub returns-in_err-notes : goal.returns-in_err-notes
returns-in_err-notes g c = passed_on _ _ _ _ c.from_residual-in_err-notes.ensures.1 (no_memory _ _ _ _ _)

pub returns-in_err-text : goal.returns-in_err-text
returns-in_err-text g c = passed_on _ _ _ _ c.from_residual-in_err-text.ensures.1 (no_memory _ _ _ _ _)

pub returns-in_err-other : goal.returns-in_err-other
returns-in_err-other g c = passed_on _ _ _ _ c.from_residual.ensures.1 (no_memory _ _ _ _ _)

pub returns-in_err-measured : goal.returns-in_err-measured
returns-in_err-measured g c = passed_on _ _ _ _ c.from_residual-in_err-measured.ensures.1 (no_memory _ _ _ _ _)
