-- Timed runs, and when their rows ran.
use Rattle.std.proofs.Common.{◌≡◌, ◌∙◌, ℕ, List, length, Option, Some, None, ap, sym, subst}
use Rattle.boc_program.specs.declared.program.Program.{Program}
use Rattle.boc_runs.specs.declared.rows.Row.{Row}
use Rattle.boc_plans.specs.Seen.{writing_all}
use Rattle.boc_plans.proofs.Seeing.{length-writing}
use Rattle.boc_busy.specs.declared.timed.TimedRows.{TimedRows}
use Rattle.boc_busy.specs.Timed.{AreTimed}
use Rattle.boc_report.specs.Parts.{AreWhole}
use Rattle.boc_words.specs.declared.schedule.Schedule.{Schedule}
use Rattle.boc_words.specs.declared.schedule.Schedule.TheVariants.{Threads, Drawn as Draws, Timed as Times}
use Rattle.boc_run_commands.specs.Schedules.{AreTimes, AreTimesText}

-- each row has a start, an end and a worker
abbrev AreAll : List Row → TimedRows → Type 0
AreAll rows times = AreWhole times × (length times.starts.items ≡ length rows)

all_timed : (rows : List Row) (workers : ℕ) (starts on : List ℕ) (times : TimedRows) → AreTimed (writing_all rows) workers starts on times → AreAll rows times
all_timed rows workers starts on times are =
    let same : length times.starts.items ≡ length (writing_all rows) = ap length are.starts_are ∙ are.keeps.whole in (
      record {
        ends = same ∙ sym are.ends_are.whole;
        workers = same ∙ sym (ap length are.workers_are ∙ are.for_workers.whole);
      },
      same ∙ length-writing rows,
    )

all_of : (program : Program) (schedule : Schedule) (rows : List Row) (times : TimedRows) → AreTimes program schedule rows (Some times) → AreAll rows times
all_of program (Threads runners) rows times are = absurd cc
all_of program (Draws workers seed depth) rows times are = absurd cc
all_of program (Times workers) rows times are =
    all_timed rows workers are.run.timetable.starts.items are.run.timetable.workers.items times are.times_are

-- where it is known when rows ran, it is of each of them
pub all_rows : (text : List ℕ) (schedule : Schedule) (rows : List Row) (known : Option TimedRows) (times : TimedRows) → known ≡ Some times
    → AreTimesText text schedule rows known → AreAll rows times
all_rows text schedule rows known times is are =
    let some : AreTimesText text schedule rows (Some times) = subst (λ (t : Option TimedRows). AreTimesText text schedule rows t) is are in
    all_of some.program schedule rows times some.times_are

-- ---- runs by a schedule

-- where none are known, they are those of a run that a seed draws
pub drawn_times : (program : Program) (schedule : Schedule) (workers seed : ℕ) (depth : Option ℕ) (rows : List Row) (times : Option TimedRows)
    → schedule ≡ Draws workers seed depth → times ≡ None → AreTimes program schedule rows times
drawn_times program schedule workers seed depth rows times is none = subst (λ (s : Schedule). AreTimes program s rows times) (sym is) none
