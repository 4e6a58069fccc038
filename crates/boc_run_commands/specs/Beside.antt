-- What `check --program` and `values --record` answer from their input and the file beside it, and what they refuse.
use Rattle.std.specs.Prelude.{◌≡◌, ℕ, List, length, Option, Some, IfSome, Result, Ok, Err}
use Rattle.boc_follow.specs.declared.stray.StrayFault.{StrayFault}
use Rattle.boc_follow.specs.Strays.{Strays}
use Rattle.boc_program.specs.declared.program.Program.{Program}
use Rattle.boc_reader.specs.Spells.{Spells}
use Rattle.boc_record.specs.RecordTexts.{IsTextOf}
use Rattle.boc_runs.specs.Records.{Recorded, IsRecordOf}
use Rattle.boc_runs.specs.Run.{config_of}
use Rattle.boc_run_commands.specs.declared.fault.Fault.{Fault}
use Rattle.boc_run_commands.specs.declared.fault.Fault.TheVariants as faults
use Rattle.boc_run_commands.specs.declared.fault.InputFault.TheVariants as inputs
use Rattle.boc_run_commands.specs.declared.fault.FileFault.TheVariants as files
use Rattle.boc_run_commands.specs.declared.fault.Want.TheVariants as wants
use Rattle.boc_run_commands.specs.Commands.{IsProgram, IsRecordRefusal, IsWrongWith, TakesText}
use Rattle.boc_run_commands.specs.Faults.{IsWant}
use Rattle.boc_ends_report.specs.ValueTexts.{values_text}
use Rattle.boc_run_commands.specs.CheckTexts.{check_text}

-- ---- what is answered

-- one text spells the program, the other is that of the record, and the record is that of a run of the program
pub record AreOfOneRun (program_text record_text : List ℕ) (program : Program) (recorded : Recorded) : Type 0 where
  pub spells : Spells program_text program
  pub tells : IsTextOf record_text recorded
  pub run : IsRecordOf program recorded

-- the file spells a program, and the input is the text of a record, which is that of a run of the program; the output tells how many rows it has
pub record IsCheckAgainstAnswer (beside input output : List ℕ) : Type 0 where
  pub program : Program
  pub recorded : Recorded
  pub of_run : AreOfOneRun beside input program recorded
  pub text : output ≡ check_text (length recorded.rows)

-- the input spells a program, and the file is the text of a record, which is that of a run of the program; the output is the text of the values
-- with which that run ended
pub record IsValuesAfterAnswer (beside input output : List ℕ) : Type 0 where
  pub program : Program
  pub recorded : Recorded
  pub of_run : AreOfOneRun input beside program recorded
  pub text : output ≡ values_text program.cowns (config_of program recorded.events).values

-- ---- what is refused of a file

-- a fault of a file that should spell a program: what is wrong with it and where, or memory was refused
abbrev pub IsOfProgramFile : List ℕ → Fault → Type 0
IsOfProgramFile text (faults.Input (inputs.Beside (files.Program r))) = IsWrongWith text r
IsOfProgramFile text (faults.Means wants.Memory) = Unit {0}
IsOfProgramFile text _ = ⊥

-- a fault of a file that should be the text of a record: its first one, or memory was refused
abbrev pub IsOfRecordFile : List ℕ → Fault → Type 0
IsOfRecordFile text (faults.Input (inputs.Beside (files.Record r))) = IsRecordRefusal r r.kind (Some text)
IsOfRecordFile text (faults.Means wants.Memory) = Unit {0}
IsOfRecordFile text _ = ⊥

-- ---- what is refused

-- A record strays so from a program on this line of its text, and is that of no run of it.
pub record StraysFrom (program : Program) (recorded : Recorded) (fault : StrayFault) : Type 0 where
  pub strays : Strays program recorded fault.kind fault.line
  pub no_run : IsRecordOf program recorded → ⊥

-- a fault of following a record by a program: where it strays first, or memory was refused
abbrev pub IsOfStray : Program → Recorded → Fault → Type 0
IsOfStray program recorded (faults.Input (inputs.Stray r)) = StraysFrom program recorded r
IsOfStray program recorded (faults.Means wants.Memory) = Unit {0}
IsOfStray program recorded _ = ⊥

-- the same of a record that stands in a file
abbrev pub IsOfStrayFile : Program → Recorded → Fault → Type 0
IsOfStrayFile program recorded (faults.Input (inputs.Beside (files.Stray r))) = StraysFrom program recorded r
IsOfStrayFile program recorded (faults.Means wants.Memory) = Unit {0}
IsOfStrayFile program recorded _ = ⊥

-- One text spells a program, the other is that of a record, where it is known, and the record strays so from the program.
pub record StrayTexts (program_text : List ℕ) (record_text : Option (List ℕ)) (fault : StrayFault) : Type 0 where
  pub program : Program
  pub spells : Spells program_text program
  pub recorded : Recorded
  pub tells : IfSome record_text (λ text. IsTextOf text recorded)
  pub strays : StraysFrom program recorded fault

-- First the file is refused, where it spells no program, for what is wrong with it; then the input, where it is the text of no record, for its first
-- fault; and then a record that is that of no run of the program, for where it strays first.
abbrev pub RefusesAgainst : {A : Type 0} → List ℕ → Result A Fault → Option (List ℕ) → Type 0
RefusesAgainst beside (Ok done) before = Unit {0}
RefusesAgainst beside (Err (faults.Input (inputs.Beside (files.Program r)))) before = IsWrongWith beside r
RefusesAgainst beside (Err (faults.Input (inputs.Record r))) before = IsProgram beside × IsRecordRefusal r r.kind before
RefusesAgainst beside (Err (faults.Input (inputs.Stray r))) before = StrayTexts beside before r
RefusesAgainst beside (Err fault) before = IsWant fault

-- a fault of a program text and a record that stands in a file: what is wrong with the program text; or that spells a program, and the file's first
-- fault; or where the file's record strays first from the program; or memory was refused
abbrev pub IsOfValuesAfter : List ℕ → List ℕ → Fault → Type 0
IsOfValuesAfter beside text (faults.Input (inputs.Program r)) = IsWrongWith text r
IsOfValuesAfter beside text (faults.Input (inputs.Beside (files.Record r))) = IsProgram text × IsRecordRefusal r r.kind (Some beside)
IsOfValuesAfter beside text (faults.Input (inputs.Beside (files.Stray r))) = StrayTexts text (Some beside) r
IsOfValuesAfter beside text (faults.Means wants.Memory) = Unit {0}
IsOfValuesAfter beside text _ = ⊥

-- First the program text that was taken is refused, then the file, and then a record that is that of no run of the program.
abbrev pub RefusesValuesAfter : {A : Type 0} → List ℕ → Result A Fault → Option (List ℕ) → Option (List ℕ) → Type 0
RefusesValuesAfter beside (Ok done) before after = Unit {0}
RefusesValuesAfter beside (Err (faults.Means w)) before after = Unit {0}
RefusesValuesAfter beside (Err fault) before after = TakesText (λ text. IsOfValuesAfter beside text fault) before after
