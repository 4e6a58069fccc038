-- Runs by a schedule, and what they fail by.
use Rattle.std.specs.Prelude.{◌≡◌, ℕ, List, Option, Some, None, Ok, Err}
use Rattle.boc_program.specs.declared.program.Program.{Program}
use Rattle.boc_reader.specs.Spells.{Spells}
use Rattle.boc_runs.specs.declared.rows.Row.{Row}
use Rattle.boc_runs.specs.Records.{Recorded}
use Rattle.boc_plans.specs.Seen.{writing_all}
use Rattle.boc_busy.specs.declared.timed.TimedRows.{TimedRows}
use Rattle.boc_busy.specs.Timed.{AreTimed}
use Rattle.boc_draws.specs.declared.drawing.Drawn.{Drawn}
use Rattle.boc_draws.specs.declared.fault.DrawFault.{DrawFault}
use Rattle.boc_draws.specs.declared.fault.DrawFault.TheVariants as draw_faults
use Rattle.boc_draws.specs.declared.way.Way.{Way}
use Rattle.boc_draws.specs.Draws.{IsDraw}
use Rattle.boc_draws.specs.Ways.{AnswersWay, IsWay}
use Rattle.boc_timed.specs.declared.fault.TimedFault.TheVariants as timed_faults
use Rattle.boc_timed.specs.declared.timing.TimedRun.{TimedRun}
use Rattle.boc_timed.specs.Timed.{IsTimed}
use Rattle.boc_workers.specs.declared.fault.RunFault.{RunFault}
use Rattle.boc_workers.specs.declared.fault.RunFault.TheVariants as runs
use Rattle.boc_workers.specs.Noting.{CanReachLimit}
use Rattle.boc_words.specs.declared.schedule.Schedule.{Schedule}
use Rattle.boc_words.specs.declared.schedule.Schedule.TheVariants.{Threads, Drawn as Draws, Timed as Times}

-- ---- what is run

-- the record is that of the run of a program which so many workers, picked by this seed in the way of this depth, come to
pub record IsDrawnBy (program : Program) (workers seed : ℕ) (depth : Option ℕ) (recorded : Recorded) : Type 0 where
  pub way : Way
  pub is_way : IsWay program workers depth way
  pub drawn : Drawn
  pub is : IsDraw program workers way seed (Ok drawn)
  pub same : recorded ≡ drawn.record

-- the record is that of the run of the program by so many workers that take ticks as time
pub record IsTimedBy (program : Program) (workers : ℕ) (recorded : Recorded) : Type 0 where
  pub run : TimedRun
  pub is : IsTimed program workers (Ok run)
  pub same : recorded ≡ run.record

-- where the schedule is a seed's, the record is that of the run that it draws; and where ticks are time, that of the timed run
abbrev pub IsScheduled : Program → Schedule → Recorded → Type 0
IsScheduled program (Threads runners) recorded = Unit {0}
IsScheduled program (Draws workers seed depth) recorded = IsDrawnBy program workers seed depth recorded
IsScheduled program (Times workers) recorded = IsTimedBy program workers recorded

-- the same of the program that a text spells
pub record IsScheduledText (text : List ℕ) (schedule : Schedule) (recorded : Recorded) : Type 0 where
  pub program : Program
  pub spells : Spells text program
  pub scheduled : IsScheduled program schedule recorded

-- ---- when its rows ran

-- These are the rows of the run of the program by so many workers that take ticks as time, and they ran then: the times are those of that run, and of a
-- schedule that ends in time.
pub record AreTimesBy (program : Program) (workers : ℕ) (rows : List Row) (times : TimedRows) : Type 0 where
  pub run : TimedRun
  pub is : IsTimed program workers (Ok run)
  pub same : rows ≡ run.record.rows
  pub times_are : AreTimed (writing_all rows) workers run.timetable.starts.items run.timetable.workers.items times

-- when the rows of a run by this schedule ran: where ticks are time, as the timed run has it; and else nothing
abbrev pub AreTimes : Program → Schedule → List Row → Option TimedRows → Type 0
AreTimes program (Threads runners) rows times = times ≡ None
AreTimes program (Draws workers seed depth) rows times = times ≡ None
AreTimes program (Times workers) rows None = ⊥
AreTimes program (Times workers) rows (Some times) = AreTimesBy program workers rows times

-- the same of the program that a text spells
pub record AreTimesText (text : List ℕ) (schedule : Schedule) (rows : List Row) (times : Option TimedRows) : Type 0 where
  pub program : Program
  pub spells : Spells text program
  pub times_are : AreTimes program schedule rows times

-- When the rows of the timed run by so many workers ran is no schedule of theirs that ends in time.
pub record HasNoSchedule (program : Program) (workers : ℕ) : Type 0 where
  pub run : TimedRun
  pub is : IsTimed program workers (Ok run)
  pub none : (times : TimedRows)
      → AreTimed (writing_all run.record.rows) workers run.timetable.starts.items run.timetable.workers.items times → ⊥

-- the schedule has ticks as time, and that is so of its workers
abbrev pub IsUnscheduled : Program → Schedule → Type 0
IsUnscheduled program (Threads runners) = ⊥
IsUnscheduled program (Draws workers seed depth) = ⊥
IsUnscheduled program (Times workers) = HasNoSchedule program workers

-- the same of the program that a text spells
pub record IsUnscheduledText (text : List ℕ) (schedule : Schedule) : Type 0 where
  pub program : Program
  pub spells : Spells text program
  pub unscheduled : IsUnscheduled program schedule

-- ---- what a run fails by

-- What is drawn of a program by so many workers, this seed and this depth ends by this fault: so does the draw by which the steps of the depth are counted,
-- or the one that is asked for.
pub data IsDrawFault (program : Program) (workers seed : ℕ) (depth : Option ℕ) (fault : DrawFault) : Type 0 where
  counting : AnswersWay program workers depth (Err fault) → IsDrawFault program workers seed depth fault
  drawing : (way : Way) → IsWay program workers depth way → IsDraw program workers way seed (Err fault) → IsDrawFault program workers seed depth fault

-- a run that a seed draws fails for want of memory, or where that draw has no room for a behaviour, and by nothing else
abbrev pub FailsDrawn : Program → ℕ → ℕ → Option ℕ → RunFault → Type 0
FailsDrawn program workers seed depth runs.Memory = Unit {0}
FailsDrawn program workers seed depth runs.Behaviours = IsDrawFault program workers seed depth draw_faults.Behaviours
FailsDrawn program workers seed depth _ = ⊥

-- a timed run fails for want of memory, or where it has no room for a behaviour, and by nothing else
abbrev pub FailsTimed : Program → ℕ → RunFault → Type 0
FailsTimed program workers runs.Memory = Unit {0}
FailsTimed program workers runs.Behaviours = IsTimed program workers (Err timed_faults.Behaviours)
FailsTimed program workers _ = ⊥

-- A run by threads has no room for a behaviour only where its program can come to as many as there may be, with one more due; a gate that is always on
-- holds nobody. Other faults say nothing of the program.
abbrev pub FailsByThreads : Type 0 → Program → RunFault → Type 0
FailsByThreads always_on program runs.Behaviours = CanReachLimit program
FailsByThreads always_on program runs.Held = always_on → ⊥
FailsByThreads always_on program _ = Unit {0}

-- a run of the program by this schedule, and by a gate that is always on where that holds, fails by this
abbrev pub Fails : Type 0 → Program → Schedule → RunFault → Type 0
Fails always_on program (Threads runners) fault = FailsByThreads always_on program fault
Fails always_on program (Draws workers seed depth) fault = FailsDrawn program workers seed depth fault
Fails always_on program (Times workers) fault = FailsTimed program workers fault

-- the same of the program that a text spells
pub record FailsText (always_on : Type 0) (schedule : Schedule) (text : List ℕ) (fault : RunFault) : Type 0 where
  pub program : Program
  pub spells : Spells text program
  pub fails : Fails always_on program schedule fault
