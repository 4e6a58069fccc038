-- What a command does to its source and its sink.
use Rattle.std.specs.Prelude.{◌≡◌, ◌≢◌, ℕ, ◌+◌, Bool, true, false, List}
use Rattle.std.specs.Prelude.{Option, Some, None, IfSome, Result, Ok, Err}
use Rattle.std.specs.Io.KnownBytes.{Consumes, IsAtEnd, Appends, Keeps}
use Rattle.boc_run_commands.specs.declared.fault.Fault.{Fault}
use Rattle.boc_run_commands.specs.declared.fault.Fault.TheVariants as faults
use Rattle.boc_run_commands.specs.declared.fault.InputFault.TheVariants as inputs
use Rattle.boc_run_commands.specs.declared.fault.Want.TheVariants as wants
use Rattle.boc_workers.specs.declared.fault.RunFault.TheVariants as runs
use Rattle.boc_run_commands.specs.Faults.{IsWant, is_source, gone_of}
use Rattle.boc_reader.specs.FaultMeanings.{IsRefusalOf}
use Rattle.boc_reader.specs.declared.fault.ReadFault.{ReadFault}
use Rattle.boc_reader.specs.declared.fault.ReadFaultKind.TheVariants as read_kinds
use Rattle.boc_record.specs.declared.fault.RecordFault.{RecordFault}
use Rattle.boc_program.specs.declared.limits.TheConstants.{MOST_TEXT}
use Rattle.boc_program.specs.declared.program.Program.{Program}
use Rattle.boc_record.specs.declared.verdict.RecordFaultKind.{RecordFaultKind}
use Rattle.boc_record.specs.declared.verdict.RecordFaultKind.TheVariants as record_kinds
use Rattle.boc_reader.specs.Spells.{Spells}
use Rattle.boc_record.specs.RecordTexts.{IsFirstFault}
use Rattle.boc_runs.specs.OwnOrder.{HasTooMany}
use Rattle.boc_text.specs.Streams.{StopsAt, ReadsWhole}
use Rattle.boc_words.specs.declared.schedule.Schedule.{Schedule}
use Rattle.boc_timed.specs.declared.fault.TimedFault.TheVariants as timed_faults
use Rattle.boc_timed.specs.Timed.{IsTimed}
use Rattle.boc_run_commands.specs.Schedules.{Fails, FailsText, HasNoSchedule, IsUnscheduled, IsUnscheduledText}

-- ---- what goes out

-- the source gave an input to its end, and this text is the answer to it
pub record AnswersInput (IsAnswer : List ℕ → List ℕ → Type 0) (before after : Option (List ℕ)) (text : List ℕ) : Type 0 where
  pub input : List ℕ
  pub taken : Consumes before after input
  pub whole : IsAtEnd after
  pub answers : IsAnswer input text

-- after a fault nothing went out; or, where the sink failed, a beginning of the answer
abbrev pub LeavesAfter : (List ℕ → Type 0) → Option ℕ → Option (List ℕ) → Option (List ℕ) → Type 0
LeavesAfter IsText None old new = Keeps old new
LeavesAfter IsText (Some gone) old new = (text : List ℕ) × IsText text × StopsAt gone text old new

-- the answer went out, and nothing else; or there was a fault
abbrev pub Leaves : {A : Type 0} → (List ℕ → Type 0) → Result A Fault → Option (List ℕ) → Option (List ℕ) → Type 0
Leaves IsText (Ok done) old new = (text : List ℕ) × IsText text × Appends old new text
Leaves IsText (Err fault) old new = LeavesAfter IsText (gone_of fault) old new

-- ---- what is counted

-- one more failure, or as many as before
abbrev pub CountsOne : Bool → ℕ → ℕ → Type 0
CountsOne true old new = new ≡ old + 1
CountsOne false old new = new ≡ old

-- the source failed where that is the answer, and there alone
abbrev pub CountsSource : {A : Type 0} → Result A Fault → ℕ → ℕ → Type 0
CountsSource (Ok done) old new = new ≡ old
CountsSource (Err fault) old new = CountsOne (is_source fault) old new

-- one more failure where so much went out before it
abbrev pub CountsGone : Option ℕ → ℕ → ℕ → Type 0
CountsGone (Some gone) old new = new ≡ old + 1
CountsGone None old new = new ≡ old

-- the sink failed where that is the answer, and there alone
abbrev pub CountsSink : {A : Type 0} → Result A Fault → ℕ → ℕ → Type 0
CountsSink (Ok done) old new = new ≡ old
CountsSink (Err fault) old new = CountsGone (gone_of fault) old new

-- ---- what is refused

-- nothing is refused: a fault is want of memory or of a device
abbrev pub RefusesNothing : {A : Type 0} → Result A Fault → Type 0
RefusesNothing (Ok done) = Unit {0}
RefusesNothing (Err fault) = IsWant fault

-- a refusal says what is wrong with a program text, and in which line; want of memory is no refusal
abbrev pub IsWrongWith : List ℕ → ReadFault → Type 0
IsWrongWith text fault = IsRefusalOf fault text × (fault.kind ≢ read_kinds.Memory)

-- the text spells a program whose own order has too many behaviours
pub record RunsOver (text : List ℕ) : Type 0 where
  pub program : Program
  pub spells : Spells text program
  pub many : HasTooMany program

-- a fault of a program text: what is wrong with it and where, or that its program has too many behaviours; no device failed
abbrev pub IsOfText : List ℕ → Fault → Type 0
IsOfText text (faults.Input (inputs.Program r)) = IsWrongWith text r
IsOfText text (faults.Run runs.Behaviours) = RunsOver text
IsOfText text (faults.Means wants.Memory) = Unit {0}
IsOfText text _ = ⊥

-- a program text was taken, up to one byte more than it may have, of which this is known
pub record TakesText (Known : List ℕ → Type 0) (before after : Option (List ℕ)) : Type 0 where
  pub input : List ℕ
  pub taken : ReadsWhole before after input (MOST_TEXT + 1)
  pub known : Known input

-- a program is refused for what was taken of the source: a wrong text, or one whose program has too many behaviours
abbrev pub RefusesProgram : {A : Type 0} → Result A Fault → Option (List ℕ) → Option (List ℕ) → Type 0
RefusesProgram (Ok done) before after = Unit {0}
RefusesProgram (Err (faults.Input (inputs.Program r))) before after = TakesText (λ text. IsWrongWith text r) before after
RefusesProgram (Err (faults.Run runs.Behaviours)) before after = TakesText RunsOver before after
RefusesProgram (Err fault) before after = IsWant fault

-- the text spells a program
abbrev pub IsProgram : List ℕ → Type 0
IsProgram text = (program : Program) × Spells text program

-- a fault of a run of a program by this schedule: what it fails by, or that when its rows ran is no schedule; want of memory is none of the run
abbrev pub IsOfCourse : Type 0 → Program → Schedule → Fault → Type 0
IsOfCourse always_on program schedule (faults.Run runs.Memory) = ⊥
IsOfCourse always_on program schedule (faults.Run r) = Fails always_on program schedule r
IsOfCourse always_on program schedule faults.Unscheduled = IsUnscheduled program schedule
IsOfCourse always_on program schedule (faults.Means wants.Memory) = Unit {0}
IsOfCourse always_on program schedule _ = ⊥

-- the same of the timed run by so many workers
abbrev pub IsOfTimed : Program → ℕ → Fault → Type 0
IsOfTimed program workers (faults.Run runs.Behaviours) = IsTimed program workers (Err timed_faults.Behaviours)
IsOfTimed program workers faults.Unscheduled = HasNoSchedule program workers
IsOfTimed program workers (faults.Means wants.Memory) = Unit {0}
IsOfTimed program workers _ = ⊥

-- a fault of a run by this schedule: what is wrong with the program text and where, or what the run of its program fails by; want of memory is none of the
-- run
abbrev pub IsOfRun : Type 0 → Schedule → List ℕ → Fault → Type 0
IsOfRun always_on schedule text (faults.Input (inputs.Program r)) = IsWrongWith text r
IsOfRun always_on schedule text (faults.Run runs.Memory) = ⊥
IsOfRun always_on schedule text (faults.Run r) = FailsText always_on schedule text r
IsOfRun always_on schedule text faults.Unscheduled = IsUnscheduledText text schedule
IsOfRun always_on schedule text (faults.Means wants.Memory) = Unit {0}
IsOfRun always_on schedule text _ = ⊥

-- a run by this schedule is refused for what was taken of the source
abbrev pub RefusesRun : {A : Type 0} → Type 0 → Schedule → Result A Fault → Option (List ℕ) → Option (List ℕ) → Type 0
RefusesRun always_on schedule (Ok done) before after = Unit {0}
RefusesRun always_on schedule (Err (faults.Means w)) before after = Unit {0}
RefusesRun always_on schedule (Err fault) before after = TakesText (λ text. IsOfRun always_on schedule text fault) before after

-- the kind of a refusal is the first fault of the text, where the source told it; want of memory or of a device is no refusal
abbrev pub IsRecordRefusal : RecordFault → RecordFaultKind → Option (List ℕ) → Type 0
IsRecordRefusal r record_kinds.Memory before = ⊥
IsRecordRefusal r record_kinds.Device before = ⊥
IsRecordRefusal r kind before = IfSome before (λ text. IsFirstFault text r.line kind)

-- the text of a record is refused for its first fault
abbrev pub RefusesRecord : {A : Type 0} → Result A Fault → Option (List ℕ) → Type 0
RefusesRecord (Ok done) before = Unit {0}
RefusesRecord (Err (faults.Input (inputs.Record r))) before = IsRecordRefusal r r.kind before
RefusesRecord (Err fault) before = IsWant fault
