-- The run that a command tells of, what its rows and cowns are called, and what is refused.
use Rattle.std.specs.Prelude.{◌≡◌, ◌≤◌, ◌⊎◌, ◌+◌, ◌<◌, ◌≢◌, ℕ, List, length, map, take, All, IfSome, Option, Some, None, Result, Ok, Err, codes}
use Rattle.std.specs.Io.KnownBytes.{Consumes, IsAtEnd}
use Rattle.boc_text.specs.Streams.{ReadsWhole}
use Rattle.boc_program.specs.declared.limits.TheConstants.{MOST_COWNS, MOST_ROWS, MOST_TEXT}
use Rattle.boc_program.specs.declared.program.Program.{Program}
use Rattle.boc_reader.specs.Spells.{Spells}
use Rattle.boc_reader.specs.Listed.{ListsDefs}
use Rattle.boc_reader.specs.declared.listing.DefListing.{DefListing}
use Rattle.boc_runs.specs.declared.rows.Row.{Row}
use Rattle.boc_runs.specs.Records.{Recorded, IsRecordOf}
use Rattle.boc_runs.specs.Run.{config_of}
use Rattle.boc_record.specs.RecordTexts.{IsTextOf}
use Rattle.boc_record.specs.declared.fault.RecordFault.{RecordFault}
use Rattle.boc_record.specs.declared.verdict.RecordFaultKind.{RecordFaultKind}
use Rattle.boc_record.specs.declared.verdict.RecordFaultKind.TheVariants as kinds
use Rattle.boc_names.specs.declared.names.Names.{Names}
use Rattle.boc_names.specs.declared.fault.NamesFault.{NamesFault}
use Rattle.boc_names.specs.declared.fault.NamesFaultKind.{NamesFaultKind}
use Rattle.boc_names.specs.declared.fault.NamesFaultKind.TheVariants as name_kinds
use Rattle.boc_names.specs.Names.{AreNamesOf, AreNumbers}
use Rattle.boc_names.specs.NamesFile.{IsNamedBy, IsNamesFault}
use Rattle.boc_words.specs.declared.asked.WhatIfFile.{WhatIfFile}
use Rattle.boc_words.specs.declared.asked.WhatIfFile.TheVariants as names_from
use Rattle.boc_words.specs.declared.asked.RunFile.{RunFile}
use Rattle.boc_words.specs.declared.asked.RunFile.TheVariants as run_files
use Rattle.boc_words.specs.declared.schedule.Schedule.{Schedule}
use Rattle.boc_run_commands.specs.declared.fault.Fault.{Fault}
use Rattle.boc_run_commands.specs.declared.fault.Fault.TheVariants as faults
use Rattle.boc_run_commands.specs.declared.fault.FileFault.TheVariants as files
use Rattle.boc_run_commands.specs.declared.fault.InputFault.TheVariants as inputs
use Rattle.boc_run_commands.specs.declared.fault.Want.TheVariants as wants
use Rattle.boc_run_commands.specs.declared.named_run.NamedRun.{NamedRun}
use Rattle.boc_run_commands.specs.Beside.{RefusesAgainst, StrayTexts}
use Rattle.boc_run_commands.specs.Commands.{IsOfRun, IsProgram, IsRecordRefusal, IsWrongWith, RefusesRecord}
use Rattle.boc_run_commands.specs.Faults.{IsWant}
use Rattle.boc_run_commands.specs.Promises.{IsRunOf}
use Rattle.boc_busy.specs.declared.timed.TimedRows.{TimedRows}
use Rattle.boc_run_commands.specs.Schedules.{AreTimesText, IsScheduledText}

-- ---- what is taken of an input

-- the text begins as that of a record does, and that of no program
abbrev pub BeginsRecord : List ℕ → Type 0
BeginsRecord text = take 3 text ≡ codes "boc"

-- The input was taken: to its end where it begins as the text of a record does, and else up to one byte more than a program text may have.
pub record IsTaken (before after : Option (List ℕ)) (text : List ℕ) : Type 0 where
  pub taken : Consumes before after text
  pub whole : BeginsRecord text → IsAtEnd after
  pub few : (BeginsRecord text → ⊥) → ReadsWhole before after text (MOST_TEXT + 1)

-- a text that doesn't begin as that of a record does is no longer than a program text may be
abbrev pub IsShort : List ℕ → Type 0
IsShort text = (BeginsRecord text → ⊥) → length text ≤ MOST_TEXT

-- ---- runs with names

-- the text is that of a record with these rows, over so many cowns
pub record IsCounted (text : List ℕ) (rows : List Row) (cowns : ℕ) : Type 0 where
  pub recorded : Recorded
  pub spells : IsTextOf text recorded
  pub rows_are : rows ≡ recorded.rows
  pub cowns_are : cowns ≡ recorded.cowns
  pub few : cowns ≤ MOST_COWNS

-- the text spells a program of which this is the record of a run, and the rows and cowns of the run are called as its behaviours and cowns are in the text
pub record IsRunNamed (text : List ℕ) (recorded : Recorded) (names : Names) : Type 0 where
  pub program : Program
  pub spells : Spells text program
  pub defs : List DefListing
  pub lists : ListsDefs text defs
  pub run : IsRunOf program recorded
  pub names_are : AreNamesOf program (map (λ d. d.name) defs) (config_of program recorded.events).members names

-- the text is that of a record, whose rows and cowns are called by their numbers
pub record IsRecordNumbered (text : List ℕ) (recorded : Recorded) (names : Names) : Type 0 where
  pub spells : IsTextOf text recorded
  pub names_are : AreNumbers (length recorded.rows) recorded.cowns names

-- One text spells a program, and another is that of the record of a run of it, whose rows and cowns are called as its behaviours and cowns are in the
-- program's text.
pub record IsRunGiven (program_text record_text : List ℕ) (recorded : Recorded) (names : Names) : Type 0 where
  pub program : Program
  pub spells : Spells program_text program
  pub defs : List DefListing
  pub lists : ListsDefs program_text defs
  pub text_of : IsTextOf record_text recorded
  pub run : IsRecordOf program recorded
  pub names_are : AreNamesOf program (map (λ d. d.name) defs) (config_of program recorded.events).members names

-- the rows and cowns have the names that a file gives them, laid over others that they have without it
pub record AreRenamed (Named : Names → Type 0) (file : List ℕ) (names : Names) : Type 0 where
  pub base : Names
  pub named : Named base
  pub renamed : IsNamedBy file base names

-- the text spells a program of which this is the record of a run by this schedule, whose rows and cowns are called so
pub record IsScheduledRun (schedule : Schedule) (text : List ℕ) (recorded : Recorded) (names : Names) : Type 0 where
  pub named : IsRunNamed text recorded names
  pub scheduled : IsScheduledText text schedule recorded

-- the input spells a program, of which this is the record of a run by this schedule, or it is the text of this record
abbrev pub IsOwnRun : Schedule → List ℕ → Recorded → Names → Type 0
IsOwnRun schedule input recorded names = IsScheduledRun schedule input recorded names ⊎ IsRecordNumbered input recorded names

-- The run that an input tells of, with what its rows and cowns are called: by itself; with the record of the run in a file beside it; or with a file of
-- names.
abbrev pub IsNamedRun : Schedule → Option RunFile → List ℕ → List ℕ → Recorded → Names → Type 0
IsNamedRun schedule None file input recorded names = IsOwnRun schedule input recorded names
IsNamedRun schedule (Some (run_files.Record path)) file input recorded names = IsRunGiven input file recorded names
IsNamedRun schedule (Some (run_files.Names path)) file input recorded names = AreRenamed (λ base. IsOwnRun schedule input recorded base) file names

-- each row has a name and a def, each cown a name and a family, and there are no more defs and families than there may be
pub record AreFew (rows : List Row) (names : Names) : Type 0 where
  pub rows_are : length names.rows.items ≡ length rows
  pub few_rows : length rows ≤ MOST_ROWS
  pub defs : length names.defs.items ≡ length rows
  pub few_defs : All (λ d. d < MOST_ROWS) names.defs.items
  pub cowns_are : length names.cowns.items ≡ length names.families.items
  pub few_cowns : length names.families.items ≤ MOST_COWNS
  pub few_families : All (λ f. f < MOST_COWNS) names.families.items

-- when the rows of the run of an input ran: of a program, by this schedule as it is run; and of a record nothing is known
abbrev pub HasOwnTimes : Schedule → List ℕ → List Row → Option TimedRows → Type 0
HasOwnTimes schedule text rows times =
    (BeginsRecord text × (times ≡ None)) ⊎ ((BeginsRecord text → ⊥) × AreTimesText text schedule rows times)

-- the same of an input with a file beside it, where nothing is known if that is the record of the run
abbrev pub HasTimes : Schedule → Option RunFile → List ℕ → List Row → Option TimedRows → Type 0
HasTimes schedule None text rows times = HasOwnTimes schedule text rows times
HasTimes schedule (Some (run_files.Record path)) text rows times = times ≡ None
HasTimes schedule (Some (run_files.Names path)) text rows times = HasOwnTimes schedule text rows times

-- the same rows, with the names that a file gives them and their cowns laid over those that they have
pub record IsRenamed (file : List ℕ) (run after : NamedRun) : Type 0 where
  pub same : after.rows ≡ run.rows
  pub times_are : after.times ≡ run.times
  pub renamed : IsNamedBy file run.names after.names
  pub few : AreFew after.rows after.names

-- these are the rows of a run, with what they and their cowns are called
pub record HasRun (Named : Recorded → Names → Type 0) (run : NamedRun) : Type 0 where
  pub recorded : Recorded
  pub named : Named recorded run.names
  pub rows_are : run.rows ≡ recorded.rows
  pub few : AreFew run.rows run.names

-- ---- what is refused

-- a fault of a record that is read from memory: what no device gives is want of memory
abbrev pub of_record_in_memory : RecordFault → RecordFaultKind → Fault
of_record_in_memory r kinds.Memory = faults.Means wants.Memory
of_record_in_memory r kinds.Device = faults.Means wants.Memory
of_record_in_memory r _ = faults.Input (inputs.Record r)

-- a fault of a file of names
abbrev pub of_names_file : NamesFault → NamesFaultKind → Fault
of_names_file r name_kinds.Memory = faults.Means wants.Memory
of_names_file r _ = faults.Input (inputs.Beside (files.Names r))

-- a file of names is refused for its first faulty line, over these names, or memory was refused
abbrev pub IsRefusedName : List ℕ → Names → Fault → Type 0
IsRefusedName file base (faults.Input (inputs.Beside (files.Names r))) = IsNamesFault file base r × (r.kind ≢ name_kinds.Memory)
IsRefusedName file base (faults.Means wants.Memory) = Unit {0}
IsRefusedName file base _ = ⊥

-- a fault of the text of a record: its first one, or memory was refused
abbrev pub IsOfRecord : List ℕ → Fault → Type 0
IsOfRecord text (faults.Input (inputs.Record r)) = IsRecordRefusal r r.kind (Some text)
IsOfRecord text (faults.Means wants.Memory) = Unit {0}
IsOfRecord text _ = ⊥

-- a fault of the text of a record, where it begins as that of one does, and else of a run of the program that it spells, by this schedule
abbrev pub IsOfOwn : Type 0 → Schedule → List ℕ → Fault → Type 0
IsOfOwn always_on schedule text fault =
    (BeginsRecord text × IsOfRecord text fault) ⊎ ((BeginsRecord text → ⊥) × IsOfRun always_on schedule text fault)

-- a fault of a program text, of a file that should be the record of a run of it, or of that record
abbrev pub IsOfGiven : List ℕ → List ℕ → Fault → Type 0
IsOfGiven text file (faults.Input (inputs.Program r)) = IsWrongWith text r
IsOfGiven text file (faults.Input (inputs.Beside (files.Record r))) = IsProgram text × IsRecordRefusal r r.kind (Some file)
IsOfGiven text file (faults.Input (inputs.Beside (files.Stray r))) = StrayTexts text (Some file) r
IsOfGiven text file (faults.Means wants.Memory) = Unit {0}
IsOfGiven text file _ = ⊥

-- the file is none of names for a run that is named so without it, for this fault
pub record IsOfNames (Named : Recorded → Names → Type 0) (file : List ℕ) (fault : NamesFault) : Type 0 where
  pub recorded : Recorded
  pub base : Names
  pub named : Named recorded base
  pub wrong : IsNamesFault file base fault
  pub refusal : fault.kind ≢ name_kinds.Memory

-- a fault of an input with a file of names beside it: of the file, or of the input
abbrev pub IsOfRenamed : Type 0 → Schedule → List ℕ → List ℕ → Fault → Type 0
IsOfRenamed always_on schedule file text (faults.Input (inputs.Beside (files.Names r))) =
    IsOfNames (λ recorded base. IsOwnRun schedule text recorded base) file r
IsOfRenamed always_on schedule file text fault = IsOfOwn always_on schedule text fault

-- a fault of an input and of the file beside it, if there is one
abbrev pub IsOfNamedRun : Type 0 → Schedule → Option RunFile → List ℕ → List ℕ → Fault → Type 0
IsOfNamedRun always_on schedule None file text fault = IsOfOwn always_on schedule text fault
IsOfNamedRun always_on schedule (Some (run_files.Record path)) file text fault = IsOfGiven text file fault
IsOfNamedRun always_on schedule (Some (run_files.Names path)) file text fault = IsOfRenamed always_on schedule file text fault

-- an input is refused, for what was taken of it and the file beside it; want of memory and of a device are no refusal
abbrev pub RefusesNamedRun : {A : Type 0} → Type 0 → Schedule → Option RunFile → List ℕ → Result A Fault → Option (List ℕ) → Option (List ℕ) → Type 0
RefusesNamedRun always_on schedule file bytes (Ok done) before after = Unit {0}
RefusesNamedRun always_on schedule file bytes (Err (faults.Means w)) before after = Unit {0}
RefusesNamedRun always_on schedule file bytes (Err fault) before after =
    (text : List ℕ) × IsTaken before after text × IsOfNamedRun always_on schedule file bytes text fault

-- ---- a record with names

-- The record whose text the input is, with what its rows and cowns are called: by their numbers; as in the program in a file beside it, of which it is a run;
-- or with a file of names. Another record in that file tells nothing of it.
abbrev pub IsNamedRecord : Option WhatIfFile → List ℕ → List ℕ → Recorded → Names → Type 0
IsNamedRecord None file input recorded names = IsRecordNumbered input recorded names
IsNamedRecord (Some (names_from.Program path)) file input recorded names = IsRunGiven file input recorded names
IsNamedRecord (Some (names_from.Record path)) file input recorded names = IsRecordNumbered input recorded names
IsNamedRecord (Some (names_from.Names path)) file input recorded names = AreRenamed (λ base. IsRecordNumbered input recorded base) file names

-- the source gave an input to its end, and these are the rows of the record that it tells, with their names
abbrev pub ReadsRun : (List ℕ → Recorded → Names → Type 0) → Result NamedRun Fault → Option (List ℕ) → Option (List ℕ) → Type 0
ReadsRun Named (Ok run) before after = (input : List ℕ) × Consumes before after input × IsAtEnd after × HasRun (Named input) run
ReadsRun Named (Err fault) before after = Unit {0}

-- the same of a record with the names that it has with the file beside it
abbrev pub ReadsNamed : Option WhatIfFile → List ℕ → Result NamedRun Fault → Option (List ℕ) → Option (List ℕ) → Type 0
ReadsNamed file bytes result before after = ReadsRun (λ input recorded names. IsNamedRecord file bytes input recorded names) result before after

-- the source told the text of a record, if it told any, and the file is none of names for it, for this fault
pub record RefusesNames (file : List ℕ) (fault : NamesFault) (before : Option (List ℕ)) : Type 0 where
  pub recorded : Recorded
  pub base : Names
  pub tells : IfSome before (λ text. IsRecordNumbered text recorded base)
  pub wrong : IsNamesFault file base fault
  pub refusal : fault.kind ≢ name_kinds.Memory

-- the text of a record is refused for its first fault, and then the file of names for its own
abbrev pub RefusesRenamed : {A : Type 0} → List ℕ → Result A Fault → Option (List ℕ) → Type 0
RefusesRenamed file (Ok done) before = Unit {0}
RefusesRenamed file (Err (faults.Input (inputs.Record r))) before = IsRecordRefusal r r.kind before
RefusesRenamed file (Err (faults.Input (inputs.Beside (files.Names r)))) before = RefusesNames file r before
RefusesRenamed file (Err fault) before = IsWant fault

-- a record is refused, or the file beside it
abbrev pub RefusesNamedRecord : {A : Type 0} → Option WhatIfFile → List ℕ → Result A Fault → Option (List ℕ) → Type 0
RefusesNamedRecord None file result before = RefusesRecord result before
RefusesNamedRecord (Some (names_from.Program path)) file result before = RefusesAgainst file result before
RefusesNamedRecord (Some (names_from.Record path)) file result before = RefusesRecord result before
RefusesNamedRecord (Some (names_from.Names path)) file result before = RefusesRenamed file result before
