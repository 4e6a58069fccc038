-- The run that an input tells of which is a program or the text of a record, as its first token says.
use Rattle.std.specs.Prelude.{◌⊎◌, ℕ, false, List, Option, Some, None, Result, Ok, Err, String}
use Rattle.std.specs.Global.{Global}
use Rattle.std.specs.Io.KnownBytes.{Keeps}
use Rattle.boc_input.specs.Taken.{Begin, TakesText}
use Rattle.boc_runs.specs.declared.rows.Row.{Row}
use Rattle.boc_runs.specs.Records.{Recorded}
use Rattle.boc_names.specs.declared.names.Names.{Names}
use Rattle.boc_words.specs.declared.asked.AskedCurve.{AskedCurve}
use Rattle.boc_words.specs.declared.asked.RunFile.{RunFile}
use Rattle.boc_words.specs.declared.asked.RunFile.TheVariants as run_files
use Rattle.boc_words.specs.declared.asked.WhatIfFile.{WhatIfFile}
use Rattle.boc_words.specs.declared.asked.WhatIfFile.TheVariants as whatif_files
use Rattle.boc_words.specs.declared.schedule.Schedule.{Schedule}
use Rattle.boc_run_commands.specs.declared.fault.Fault.{Fault}
use Rattle.boc_run_commands.specs.declared.fault.Fault.TheVariants as faults
use Rattle.boc_run_commands.specs.declared.fault.FileFault.TheVariants as files
use Rattle.boc_run_commands.specs.declared.fault.InputFault.TheVariants as inputs
use Rattle.boc_plan_commands.specs.declared.program_input.Supplied.{Supplied}
use Rattle.boc_plan_commands.specs.declared.program_input.Supplied.TheVariants.{Nothing, Record, Names as NamesFile}
use Rattle.boc_run_commands.specs.Answers.{IsCurveAnswer, IsCurveTold}
use Rattle.boc_run_commands.specs.Commands.{IsOfRun}
use Rattle.boc_run_commands.specs.Measured.{AreMeasured}
use Rattle.boc_run_commands.specs.NamedRuns.{AreRenamed, IsOfGiven, IsOfNames, IsRunGiven, IsScheduledRun}

-- ---- the file given with an input

-- what a file has for a program that may be the record of its run
abbrev pub supplied_record : Option (String Global) → Supplied
supplied_record None = Nothing
supplied_record (Some path) = Record

-- what the file of a run has
abbrev pub supplied_by : Option RunFile → Supplied
supplied_by None = Nothing
supplied_by (Some (run_files.Record path)) = Record
supplied_by (Some (run_files.Names path)) = NamesFile

-- what the file of `whatif` has for a program, which needs no other program
abbrev pub supplied_to : Option WhatIfFile → Supplied
supplied_to None = Nothing
supplied_to (Some (whatif_files.Program path)) = Nothing
supplied_to (Some (whatif_files.Record path)) = Record
supplied_to (Some (whatif_files.Names path)) = NamesFile

-- ---- the run of a program

-- The text spells a program, of which this is the record of a run by this schedule, or of the one that the file beside it has the record of; and the rows and
-- cowns are called as in the text, or with the names of the file laid over.
abbrev pub IsProgramRun : Schedule → Supplied → List ℕ → List ℕ → Recorded → Names → Type 0
IsProgramRun schedule Nothing file text recorded names = IsScheduledRun schedule text recorded names
IsProgramRun schedule Record file text recorded names = IsRunGiven text file recorded names
IsProgramRun schedule NamesFile file text recorded names = AreRenamed (λ base. IsScheduledRun schedule text recorded base) file names

-- a fault of a program with a file of names beside it: of the file, or of the program or its run
abbrev pub IsOfProgramRenamed : Type 0 → Schedule → List ℕ → List ℕ → Fault → Type 0
IsOfProgramRenamed always_on schedule file text (faults.Input (inputs.Beside (files.Names r))) =
    IsOfNames (λ recorded base. IsScheduledRun schedule text recorded base) file r
IsOfProgramRenamed always_on schedule file text fault = IsOfRun always_on schedule text fault

-- a fault of a program text, of its run, or of the file beside it
abbrev pub IsOfProgramRun : Type 0 → Schedule → Supplied → List ℕ → List ℕ → Fault → Type 0
IsOfProgramRun always_on schedule Nothing file text fault = IsOfRun always_on schedule text fault
IsOfProgramRun always_on schedule Record file text fault = IsOfGiven text file fault
IsOfProgramRun always_on schedule NamesFile file text fault = IsOfProgramRenamed always_on schedule file text fault

-- the bytes that come are the same, where it is known which, and this holds of them
abbrev pub OfTheSame : (Option (List ℕ) → Type 0) → Option (List ℕ) → Type 0
OfTheSame Holds before = (same : Option (List ℕ)) × Keeps before same × Holds same

-- An input is refused: where it begins as no program does, as the text of a record; and else for what was taken of it, as a program. Want of memory and of a
-- device are no refusal.
abbrev pub RefusesEither : {A : Type 0} → (Fault → Option (List ℕ) → Type 0) → (List ℕ → Fault → Type 0) → Result A Fault → Option (List ℕ)
    → Option (List ℕ) → Type 0
RefusesEither IsOfRecord IsOfProgram (Ok done) before after = Unit {0}
RefusesEither IsOfRecord IsOfProgram (Err (faults.Means w)) before after = Unit {0}
RefusesEither IsOfRecord IsOfProgram (Err fault) before after =
    (Begin false before × OfTheSame (IsOfRecord fault) before) ⊎ ((text : List ℕ) × TakesText before after text × IsOfProgram text fault)

-- ---- curves

-- the input spells a program, and the output is the curve of the rows of its run
pub record IsProgramCurve (asked : AskedCurve) (supplied : Supplied) (file input output : List ℕ) : Type 0 where
  pub recorded : Recorded
  pub names : Names
  pub run : IsProgramRun asked.schedule supplied file input recorded names
  pub measured : List Row
  pub measured_are : AreMeasured asked.typical names.defs.items recorded.rows measured
  pub told : IsCurveTold asked.sharing asked.most measured output

-- the output is the curve of the rows of a record, or of the run of a program
abbrev pub IsCurveOf : AskedCurve → Supplied → List ℕ → List ℕ → List ℕ → Type 0
IsCurveOf asked supplied file input output =
    IsCurveAnswer asked.sharing asked.most input output ⊎ IsProgramCurve asked supplied file input output
