use Rattle.std.proofs.Common.{List, Option, Ok, refl, subst, sym}
use Rattle.std.specs.Prelude.{IfSome}
use Rattle.boc_program.specs.declared.program.Program.{Program}
use Rattle.boc_runs.specs.declared.rows.Row.{Row}
use Rattle.boc_plans.specs.Seen.{writing_all}
use Rattle.boc_busy.specs.declared.timed.TimedRows.{TimedRows}
use Rattle.boc_busy.specs.Timed.{AreTimed}
use Rattle.boc_timed.specs.Timed.{IsTimed}
use Rattle.boc_run_commands.proofs.run.timed.Goals as goal

pub returns-in-Some-clause-timed : goal.returns-in-Some-clause-timed
returns-in-Some-clause-timed g c = record {
  run = c.in_ok-run.run';
  is = subst (λ (p : Program). IsTimed p c.args.workers (Ok c.in_ok-run.run')) c.in_ok-compiled.ensures c.in_ok-run.ensures.timed;
  same = refl;
}

pub returns-in-Some-clause-times : goal.returns-in-Some-clause-times
returns-in-Some-clause-times g c =
    let run = c.in_ok-run.run' in
    record {
      run = run;
      is = subst (λ (p : Program). IsTimed p c.args.workers (Ok run)) c.in_ok-compiled.ensures c.in_ok-run.ensures.timed;
      same = refl;
      times_are = subst (λ (o : Option TimedRows). IfSome o (λ t. AreTimed (writing_all run.record.rows) c.args.workers run.timetable.starts.items
          run.timetable.workers.items t)) c.in-Some.is
          (subst (λ (rows : List Row). IfSome c.in_ok-times.field-0 (λ t. AreTimed (writing_all rows) c.args.workers run.timetable.starts.items
          run.timetable.workers.items t)) c.rows.ensures.value c.in_ok-times.ensures.timed);
    }

pub returns-clause-failed : goal.returns-clause-failed
returns-clause-failed g c =
    let run = c.in_ok-run.run' in
    record {
      run = run;
      is = subst (λ (p : Program). IsTimed p c.args.workers (Ok run)) c.in_ok-compiled.ensures c.in_ok-run.ensures.timed;
      none = λ times are. c.in_ok-times.ensures.untimed c.in-None.is times
          (subst (λ (rows : List Row). AreTimed (writing_all rows) c.args.workers run.timetable.starts.items run.timetable.workers.items times)
          (sym c.rows.ensures.value) are);
    }
