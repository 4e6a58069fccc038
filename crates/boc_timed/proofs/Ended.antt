-- What is answered where all is over.
use Rattle.std.proofs.Common.{◌≡◌, ℕ, List, length, ◌∙◌, ap, sym, subst}
use Rattle.std.specs.Prelude.{Ok}
use Rattle.boc_program.specs.declared.program.Program.{Program}
use Rattle.boc_runs.specs.declared.event.Event.{Event}
use Rattle.boc_runs.specs.Records.{IsRecord, IsRecordOf}
use Rattle.boc_runs.specs.Run.{Member, config_of}
use Rattle.boc_runs.specs.machine.Steps.{IsQuiet, recorded, values}
use Rattle.boc_machine_laws.proofs.Serially.{ends_serially, rows_are_members}
use Rattle.boc_dispatch.specs.Underway.{Underway}
use Rattle.boc_dispatch.specs.Calls.{EndsAsRecord}
use Rattle.boc_timed.specs.declared.timetable.Timetable.{Timetable}
use Rattle.boc_timed.specs.declared.timing.TimedRun.{TimedRun}
use Rattle.boc_timed.specs.Timed.{IsTimedRun, IsTimetableOf, Plays}

pub is_run : (p : Program) (workers : ℕ) (t : Timetable) (u : Underway) (run : TimedRun) → Plays p workers t (Ok u) → EndsAsRecord u (Ok run.record)
    → IsRecord run.record → run.values.items ≡ values u.program u.state → run.steps ≡ u.state.steps → run.timetable ≡ t → IsTimedRun p workers run
is_run p workers t u run plays ends whole values_are steps_are same =
    let own : IsRecordOf p run.record = subst (λ (q : Program). IsRecordOf q run.record) (ap (λ (x : Underway). x.program) plays.is) ends.2 in
    let events : run.record.events ≡ plays.end.state.log = ends.1 ∙ ap (λ (x : Underway). x.state.log) plays.is in
    let rows : length run.record.rows ≡ recorded p plays.end.state =
    whole.rows_are.all ∙ rows_are_members p run.record.events own.run.run
    ∙ ap (λ (log : List Event). length {A = Member} (config_of p log).members) events in
    record {
      choices = plays.choices;
      end = plays.end;
      later = plays.later;
      turns = plays.turns;
      quiet = subst (λ (x : Underway). IsQuiet x.state) plays.is plays.quiet;
      events = events;
      run = own;
      whole = whole;
      ends = ends_serially p run.record.events own.run.run;
      values_are = values_are ∙ ap (λ (x : Underway). values x.program x.state) plays.is;
      steps_are = steps_are ∙ ap (λ (x : Underway). x.state.steps) plays.is;
      scheduled = subst (λ (s : Timetable). IsTimetableOf p workers plays.choices (length run.record.rows) s) (sym same)
          (subst (λ (n : ℕ). IsTimetableOf p workers plays.choices n t) (sym rows) plays.scheduled);
    }
