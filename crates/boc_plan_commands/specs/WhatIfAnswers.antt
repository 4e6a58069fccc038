-- What the command `whatif` answers, and what it refuses.
use Rattle.std.specs.Prelude.{◌≡◌, ◌≢◌, ℕ, ◌⊎◌, Bool, true, false, List, [], All, Option, Some, None, IfSome, Result, Ok, Err}
use Rattle.boc_runs.specs.declared.rows.Row.{Row}
use Rattle.boc_runs.specs.Records.{Recorded}
use Rattle.boc_plans.specs.declared.chain.ChainStep.{ChainStep}
use Rattle.boc_plans.specs.declared.sharing.Sharing.{Sharing}
use Rattle.boc_plans.specs.Chains.{IsPicked}
use Rattle.boc_plans.specs.Greedy.{IsSpan}
use Rattle.boc_plans.specs.Plans.{IsEarliest, work_of}
use Rattle.boc_plans.specs.Seen.{seen}
use Rattle.boc_plans.specs.Sweeps.{IsGreedyEnd}
use Rattle.boc_names.specs.declared.names.Names.{Names}
use Rattle.boc_why.specs.Causes.{without_all}
use Rattle.boc_why.specs.WhySteps.{AreSharesByDef}
use Rattle.boc_why_report.specs.declared.short.Outcome.{Outcome}
use Rattle.boc_why_report.specs.ShortTexts.{short_text}
use Rattle.boc_words.specs.declared.asked.AskedChanges.{AskedChanges}
use Rattle.boc_words.specs.declared.asked.AskedPlans.{AskedPlans}
use Rattle.boc_words.specs.declared.asked.WhatIfFile.{WhatIfFile}
use Rattle.boc_run_commands.specs.declared.fault.Fault.{Fault}
use Rattle.boc_run_commands.specs.declared.fault.Fault.TheVariants as faults
use Rattle.boc_run_commands.specs.declared.fault.InputFault.TheVariants as inputs
use Rattle.boc_run_commands.specs.Answers.{IsReport}
use Rattle.boc_words.specs.declared.schedule.Schedule.{Schedule}
use Rattle.boc_plan_commands.specs.declared.program_input.Supplied.{Supplied}
use Rattle.boc_run_commands.specs.Measured.{AreMeasured}
use Rattle.boc_run_commands.specs.NamedRuns.{IsNamedRecord, RefusesNamedRecord}
use Rattle.boc_plan_commands.specs.ProgramInputs.{IsOfProgramRun, IsProgramRun, supplied_to}
use Rattle.boc_plan_commands.specs.Asked.{AreAskedEarly, AreAskedFor, IsOfCowns, IsOfEarly, IsOfEdits, all_cowns, cowns_of}

-- ---- what is told

-- the end of the greedy plan for the number of workers that was asked for, where one was
abbrev pub IsAskedEnd : List Row → Option ℕ → Option ℕ → Type 0
IsAskedEnd rows None None = Unit {0}
IsAskedEnd rows (Some p) (Some end) = IsGreedyEnd rows p end
IsAskedEnd rows workers end = ⊥

-- What some rows with these defs come to: their work, their span, the shares by def of the chain that is picked in their earliest plan, and the end of the
-- greedy plan that was asked for.
pub record IsOutcome (rows : List Row) (sharing : Sharing) (defs : List ℕ) (workers : Option ℕ) (outcome : Outcome) : Type 0 where
  pub work : outcome.work ≡ work_of rows
  pub span : IsSpan (seen sharing rows) outcome.span
  pub starts : List ℕ
  pub earliest : IsEarliest (seen sharing rows) starts
  pub steps : List ChainStep
  pub picked : IsPicked (seen sharing rows) starts steps
  pub by_def : AreSharesByDef defs steps outcome.by_def.items
  pub end : IsAskedEnd (seen sharing rows) workers outcome.end

-- the output tells in short what some rows come to before and after they change
pub record IsShortReport (names : Names) (sharing : Sharing) (workers : Option ℕ) (before after : List Row) (output : List ℕ) : Type 0 where
  pub was : Outcome
  pub was_is : IsOutcome before sharing names.defs.items workers was
  pub now : Outcome
  pub now_is : IsOutcome after sharing names.defs.items workers now
  pub text : output ≡ short_text names was now

-- the output is the report on rows after they change, or what is told in short of them before and after
abbrev pub IsReportAfter : Bool → Names → Sharing → AskedPlans → List Row → List Row → List ℕ → Type 0
IsReportAfter false names sharing plans before after output = IsReport (seen sharing after) plans output
IsReportAfter true names sharing plans before after output = IsShortReport names sharing plans.workers before after output

-- Every cown that is asked for means some in these names. Without all of these cowns the rows of each def that is asked for spawn early, and there are some.
-- After that the rows take all edits that are asked for, one after the other, of which each means some, and these are the rows after all of it.
pub record AreChangedSo (names : Names) (changes : AskedChanges) (rows after : List Row) : Type 0 where
  pub known : All (λ a. cowns_of names a ≢ []) changes.cowns.items
  pub spawned : List Row
  pub early : AreAskedEarly names (without_all (all_cowns names changes.cowns.items) rows) changes.early.items spawned
  pub asked_for : AreAskedFor names spawned changes.edits.items after

-- a text tells in short what rows come to before and after these changes
pub record IsShortAnswer (names : Names) (changes : AskedChanges) (sharing : Sharing) (workers : Option ℕ) (rows : List Row)
    (text : List ℕ) : Type 0 where
  pub after : List Row
  pub changed : AreChangedSo names changes rows after
  pub told : IsShortReport names sharing workers rows after text

-- the output tells of rows, with the ticks that they have, after these changes
pub record IsWhatIfReport (names : Names) (changes : AskedChanges) (sharing : Sharing) (plans : AskedPlans) (short : Bool)
    (rows : List Row) (output : List ℕ) : Type 0 where
  pub after : List Row
  pub changed : AreChangedSo names changes rows after
  pub told : IsReportAfter short names sharing plans rows after output

-- the output tells of the rows of a run, with their own ticks or typical ones, after these changes
pub record IsMeasuredReport (names : Names) (changes : AskedChanges) (sharing : Sharing) (plans : AskedPlans) (short : Bool)
    (rows : List Row) (output : List ℕ) : Type 0 where
  pub measured : List Row
  pub measured_are : AreMeasured changes.typical names.defs.items rows measured
  pub told : IsWhatIfReport names changes sharing plans short measured output

-- ---- what is refused

-- every cown that is asked for means some, and this is a fault of the defs that are to spawn early
pub record IsOfEarlyAfter (names : Names) (changes : AskedChanges) (fault : Fault) : Type 0 where
  pub known : All (λ a. cowns_of names a ≢ []) changes.cowns.items
  pub unmeant : IsOfEarly names changes.early.items fault

-- every cown that is asked for means some, every def that is to spawn early has rows, and this is a fault of the edits, of the rows after both changes
pub record IsOfEditsAfter (names : Names) (changes : AskedChanges) (rows : List Row) (fault : Fault) : Type 0 where
  pub known : All (λ a. cowns_of names a ≢ []) changes.cowns.items
  pub spawned : List Row
  pub early : AreAskedEarly names (without_all (all_cowns names changes.cowns.items) rows) changes.early.items spawned
  pub unfit : IsOfEdits names spawned changes.edits.items fault

-- a fault of what is asked for: of the cowns, and else of the defs that are to spawn early, and else of the edits
abbrev pub IsOfAsked : Names → AskedChanges → List Row → Fault → Type 0
IsOfAsked names changes rows fault =
    IsOfCowns names changes.cowns.items fault ⊎ (IsOfEarlyAfter names changes fault ⊎ IsOfEditsAfter names changes rows fault)

-- a fault of what is asked for of the rows of a run, with their own ticks or typical ones
pub record IsOfMeasured (names : Names) (changes : AskedChanges) (rows : List Row) (fault : Fault) : Type 0 where
  pub measured : List Row
  pub measured_are : AreMeasured changes.typical names.defs.items rows measured
  pub unfit : IsOfAsked names changes measured fault

-- what is asked for is refused; want of memory and of a device are no refusal
abbrev pub RefusesAsked : {A : Type 0} → Names → AskedChanges → List Row → Result A Fault → Type 0
RefusesAsked names changes rows (Ok done) = Unit {0}
RefusesAsked names changes rows (Err (faults.Means w)) = Unit {0}
RefusesAsked names changes rows (Err fault) = IsOfAsked names changes rows fault

-- and so it is of the rows of a run
abbrev pub RefusesMeasured : {A : Type 0} → Names → AskedChanges → List Row → Result A Fault → Type 0
RefusesMeasured names changes rows (Ok done) = Unit {0}
RefusesMeasured names changes rows (Err (faults.Means w)) = Unit {0}
RefusesMeasured names changes rows (Err fault) = IsOfMeasured names changes rows fault

-- ---- the command

-- the input is the text of a record, whose rows and cowns have names from the file beside it, if there is one, and the output tells of its rows after these
-- changes
pub record IsWhatIfAnswer (file : Option WhatIfFile) (bytes : List ℕ) (changes : AskedChanges) (sharing : Sharing)
    (plans : AskedPlans) (short : Bool) (input output : List ℕ) : Type 0 where
  pub recorded : Recorded
  pub names : Names
  pub named : IsNamedRecord file bytes input recorded names
  pub report : IsMeasuredReport names changes sharing plans short recorded.rows output

-- the source told the text of a record, if it told any, and what is asked for is refused with this fault, in the names that the record has
pub record RefusesSupposed (file : Option WhatIfFile) (bytes : List ℕ) (changes : AskedChanges) (fault : Fault)
    (before : Option (List ℕ)) : Type 0 where
  pub recorded : Recorded
  pub names : Names
  pub tells : IfSome before (λ text. IsNamedRecord file bytes text recorded names)
  pub unfit : IsOfMeasured names changes recorded.rows fault

-- the record is refused, or the file beside it, and then what is asked for
abbrev pub RefusesWhatIf : {A : Type 0} → Option WhatIfFile → List ℕ → AskedChanges → Result A Fault → Option (List ℕ) → Type 0
RefusesWhatIf file bytes changes (Ok done) before = Unit {0}
RefusesWhatIf file bytes changes (Err (faults.Input (inputs.Cown number))) before =
    RefusesSupposed file bytes changes (faults.Input (inputs.Cown number)) before
RefusesWhatIf file bytes changes (Err (faults.Input (inputs.Early number))) before =
    RefusesSupposed file bytes changes (faults.Input (inputs.Early number)) before
RefusesWhatIf file bytes changes (Err (faults.Input (inputs.Edit number fault))) before =
    RefusesSupposed file bytes changes (faults.Input (inputs.Edit number fault)) before
RefusesWhatIf file bytes changes (Err (faults.Input (inputs.Def number))) before =
    RefusesSupposed file bytes changes (faults.Input (inputs.Def number)) before
RefusesWhatIf {A = A} file bytes changes (Err fault) before = RefusesNamedRecord {A = A} file bytes (Err fault) before

-- ---- a program

-- the text spells a program, and the output tells of the rows of its run after these changes
pub record IsProgramWhatIf (schedule : Schedule) (supplied : Supplied) (file : List ℕ) (changes : AskedChanges) (sharing : Sharing)
    (plans : AskedPlans) (short : Bool) (input output : List ℕ) : Type 0 where
  pub recorded : Recorded
  pub names : Names
  pub run : IsProgramRun schedule supplied file input recorded names
  pub report : IsMeasuredReport names changes sharing plans short recorded.rows output

-- the output tells of the rows of a record after these changes, or of those of the run of a program
abbrev pub AnswersWhatIf : Schedule → Option WhatIfFile → List ℕ → AskedChanges → Sharing → AskedPlans → Bool → List ℕ → List ℕ → Type 0
AnswersWhatIf schedule file bytes changes sharing plans short input output =
    IsWhatIfAnswer file bytes changes sharing plans short input output
    ⊎ IsProgramWhatIf schedule (supplied_to file) bytes changes sharing plans short input output

-- the text spells a program, and what is asked for is refused with this fault, of the rows of its run
pub record IsOfSupposed (schedule : Schedule) (supplied : Supplied) (file : List ℕ) (changes : AskedChanges) (text : List ℕ)
    (fault : Fault) : Type 0 where
  pub recorded : Recorded
  pub names : Names
  pub run : IsProgramRun schedule supplied file text recorded names
  pub unfit : IsOfMeasured names changes recorded.rows fault

-- a fault of a program text, of its run, or of the file beside it, and then of what is asked for
abbrev pub IsOfWhatIf : Type 0 → Schedule → Supplied → List ℕ → AskedChanges → List ℕ → Fault → Type 0
IsOfWhatIf always_on schedule supplied file changes text fault =
    IsOfProgramRun always_on schedule supplied file text fault ⊎ IsOfSupposed schedule supplied file changes text fault
