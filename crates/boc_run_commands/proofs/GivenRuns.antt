-- Runs that a file beside an input tells of, or names.
use Rattle.std.proofs.Common.{◌≡◌, ◌∙◌, ℕ, inl, inr, List, Option, None, Some, Result, Ok, Err, refl, ap, sym, subst}
use Rattle.std.specs.Prelude.{MatchResult, String}
use Rattle.std.specs.Global.{Global}
use Rattle.boc_program.specs.declared.program.Program.{Program}
use Rattle.boc_reader.specs.Spells.{Spells}
use Rattle.boc_runs.specs.Records.{Recorded}
use Rattle.boc_follow.specs.declared.stray.StrayFault.{StrayFault}
use Rattle.boc_follow.specs.declared.stray.StrayFaultKind.{StrayFaultKind}
use Rattle.boc_follow.specs.declared.stray.StrayFaultKind.TheVariants as strays
use Rattle.boc_follow.specs.Strays.{Strays, Tells}
use Rattle.boc_record.specs.RecordTexts.{IsTextOf}
use Rattle.boc_words.specs.declared.asked.RunFile.{RunFile}
use Rattle.boc_words.specs.declared.schedule.Schedule.{Schedule}
use Rattle.boc_words.specs.declared.asked.RunFile.TheVariants as run_files
use Rattle.boc_run_commands.specs.declared.fault.Fault.{Fault}
use Rattle.boc_run_commands.specs.declared.fault.Fault.TheVariants as faults
use Rattle.boc_run_commands.specs.declared.fault.FileFault.TheVariants as files
use Rattle.boc_run_commands.specs.declared.fault.InputFault.TheVariants as inputs
use Rattle.boc_run_commands.specs.declared.fault.Want.TheVariants as wants
use Rattle.boc_run_commands.specs.declared.named_run.NamedRun.{NamedRun}
use Rattle.boc_run_commands.specs.Beside.{IsOfRecordFile}
use Rattle.boc_run_commands.specs.Faults.{of_stray_beside}
use Rattle.boc_runs.specs.declared.rows.Row.{Row}
use Rattle.boc_busy.specs.declared.timed.TimedRows.{TimedRows}
use Rattle.boc_run_commands.specs.NamedRuns.{AreRenamed, HasOwnTimes, HasRun, HasTimes, IsNamedRun, IsOfGiven, IsOfNamedRun, IsOfOwn, IsOfRenamed}
use Rattle.boc_run_commands.specs.NamedRuns.{IsOwnRun, IsRefusedName}
use Rattle.boc_run_commands.specs.NamedRuns.{IsRecordNumbered, IsRenamed, IsShort, ReadsRun, RefusesRenamed}
use Rattle.std.specs.Result.{IsErrAnd}
use Rattle.boc_run_commands.specs.Commands.{RefusesRecord}
use Rattle.boc_run_commands.proofs.Asked.{told as told_of}
use Rattle.boc_run_commands.proofs.TakenRuns.{begins_or_not}

-- a file that should be a record, beside a text that spells a program, is refused as such
pub of_given_file : (text file : List ℕ) (program : Program) (fault : Fault) → Spells text program → IsOfRecordFile file fault → IsOfGiven text file fault
of_given_file text file program (faults.Input (inputs.Beside (files.Record r))) spells is = ((program, spells), is)
of_given_file text file program (faults.Means wants.Memory) spells is = tt
of_given_file text file program _ spells is = absurd is

-- and so is one whose record strays from the program
pub of_given_stray : (text file : List ℕ) (program : Program) (recorded : Recorded) (stray : StrayFault) → Spells text program → IsTextOf file recorded
    → Tells program recorded stray.kind stray.line → IsOfGiven text file (of_stray_beside stray stray.kind)
of_given_stray text file program recorded stray spells tells told = go stray.kind refl told
  where
    strayed : (kind : StrayFaultKind) → stray.kind ≡ kind → Strays program recorded kind stray.line → Strays program recorded stray.kind stray.line
    strayed kind same h = subst (λ k. Strays program recorded k stray.line) (sym same) h

    go : (kind : StrayFaultKind) → stray.kind ≡ kind → Tells program recorded kind stray.line → IsOfGiven text file (of_stray_beside stray kind)
    go strays.Memory same h = tt
    go strays.OtherCowns same h = record {
      program = program;
      spells = spells;
      recorded = recorded;
      tells = tells;
      strays = record { strays = strayed strays.OtherCowns same h.0; no_run = h.1 };
    }
    go strays.NotNextSpawn same h = record {
      program = program;
      spells = spells;
      recorded = recorded;
      tells = tells;
      strays = record { strays = strayed strays.NotNextSpawn same h.0; no_run = h.1 };
    }
    go strays.NotItsEnd same h = record {
      program = program;
      spells = spells;
      recorded = recorded;
      tells = tells;
      strays = record { strays = strayed strays.NotItsEnd same h.0; no_run = h.1 };
    }

-- a run with names that a file laid over its own, or why the file is none of names
pub renamed_run : (always_on : Type 0) (schedule : Schedule) (text bytes file : List ℕ) (run : NamedRun) (result : Result NamedRun Fault)
    → HasRun (IsOwnRun schedule text) run → IsShort text → HasOwnTimes schedule text run.rows run.times
    → file ≡ bytes → MatchResult result (IsRenamed file run) (IsRefusedName file run.names)
    → MatchResult result (λ after. HasRun (λ recorded names. AreRenamed (λ base. IsOwnRun schedule text recorded base) bytes names) after × IsShort text
    × HasOwnTimes schedule text after.rows after.times)
    (IsOfRenamed always_on schedule bytes text)
renamed_run always_on schedule text bytes file run (Ok after) has short times same h =
    let own : IsRenamed bytes run after = subst (λ f. IsRenamed f run after) same h in (
      record {
        recorded = has.recorded;
        named = record { base = run.names; named = has.named; renamed = own.renamed };
        rows_are = own.same ∙ has.rows_are;
        few = own.few;
      },
      short,
      subst (λ (rows : List Row). HasOwnTimes schedule text rows after.times) (sym own.same)
          (subst (λ (t : Option TimedRows). HasOwnTimes schedule text run.rows t) (sym own.times_are) times),
    )
renamed_run always_on schedule text bytes file run (Err fault) has short times same h = go fault (subst (λ f. IsRefusedName f run.names fault) same h)
  where
    go : (x : Fault) → IsRefusedName bytes run.names x → IsOfRenamed always_on schedule bytes text x
    go (faults.Input (inputs.Beside (files.Names r))) is =
        record { recorded = has.recorded; base = run.names; named = has.named; wrong = is.0; refusal = is.1 }
    go (faults.Means wants.Memory) is = elim (begins_or_not text) [ inl begins ↦ inl (begins, tt) | inr none ↦ inr (none, tt) ]
    go _ is = absurd is

-- what a named run says of an input and the file beside it
abbrev Answers : Type 0 → Schedule → Option RunFile → List ℕ → List ℕ → Result NamedRun Fault → Type 0
Answers always_on schedule asked bytes text result =
    MatchResult result
    (λ run. HasRun (IsNamedRun schedule asked bytes text) run × IsShort text × HasTimes schedule asked text run.rows run.times)
    (IsOfNamedRun always_on schedule asked bytes text)

-- the same, of a file that is told to be one of names
pub renamed_as : (always_on : Type 0) (schedule : Schedule) (text bytes file : List ℕ) (run : NamedRun) (result : Result NamedRun Fault)
    (asked : Option RunFile)
    (named : RunFile) (path : String Global) → asked ≡ Some named → named ≡ run_files.Names path → HasRun (IsOwnRun schedule text) run → IsShort text
    → HasOwnTimes schedule text run.rows run.times
    → file ≡ bytes → MatchResult result (IsRenamed file run) (IsRefusedName file run.names)
    → MatchResult result
    (λ after. HasRun (IsNamedRun schedule asked bytes text) after × IsShort text × HasTimes schedule asked text after.rows after.times)
    (IsOfNamedRun always_on schedule asked bytes text)
renamed_as always_on schedule text bytes file run result asked named path is_asked is_named has short times same h =
    subst (λ (o : Option RunFile). Answers always_on schedule o bytes text result) (sym (is_asked ∙ ap Some is_named))
    (renamed_run always_on schedule text bytes file run result has short times same h)

-- a run with no file beside it
pub own_as : (always_on : Type 0) (schedule : Schedule) (text bytes : List ℕ) (result : Result NamedRun Fault) (asked : Option RunFile) → asked ≡ None
    → MatchResult result (λ run. HasRun (IsOwnRun schedule text) run × IsShort text × HasOwnTimes schedule text run.rows run.times)
    (IsOfOwn always_on schedule text)
    → MatchResult result
    (λ run. HasRun (IsNamedRun schedule asked bytes text) run × IsShort text × HasTimes schedule asked text run.rows run.times)
    (IsOfNamedRun always_on schedule asked bytes text)
own_as always_on schedule text bytes result asked is h = subst (λ (o : Option RunFile). Answers always_on schedule o bytes text result) (sym is) h

-- ---- a record with names

-- a record that was read, with names that a file laid over its numbers
pub read_renamed : (bytes : List ℕ) (run : NamedRun) (result : Result NamedRun Fault) (before after : Option (List ℕ))
    → ReadsRun IsRecordNumbered (Ok run) before after → MatchResult result (IsRenamed bytes run) (IsRefusedName bytes run.names)
    → ReadsRun (λ input recorded names. AreRenamed (λ base. IsRecordNumbered input recorded base) bytes names) result before after
read_renamed bytes run (Err fault) before after read h = tt
read_renamed bytes run (Ok renamed) before after read h = (
  read.0,
  read.1,
  read.2,
  record {
    recorded = read.3.recorded;
    named = record { base = run.names; named = read.3.named; renamed = h.renamed };
    rows_are = h.same ∙ read.3.rows_are;
    few = h.few;
  },
)

-- or why the file is none of names
pub refused_renamed : (bytes : List ℕ) (run : NamedRun) (result : Result NamedRun Fault) (before after : Option (List ℕ))
    → ReadsRun IsRecordNumbered (Ok run) before after → MatchResult result (IsRenamed bytes run) (IsRefusedName bytes run.names)
    → RefusesRenamed bytes result before
refused_renamed bytes run result before after read h = go result h
  where
    of_names : (x : Fault) → IsRefusedName bytes run.names x → RefusesRenamed {A = NamedRun} bytes (Err x) before
    of_names (faults.Input (inputs.Beside (files.Names r))) is = record {
      recorded = read.3.recorded;
      base = run.names;
      tells = told_of (λ t. IsRecordNumbered t read.3.recorded run.names) before after read.0 read.1 read.2 read.3.named;
      wrong = is.0;
      refusal = is.1;
    }
    of_names (faults.Means wants.Memory) is = tt
    of_names _ is = absurd is

    go : (r : Result NamedRun Fault) → MatchResult r (IsRenamed bytes run) (IsRefusedName bytes run.names) → RefusesRenamed bytes r before
    go (Ok renamed) is = tt
    go (Err fault) is = of_names fault is

-- a record that is refused before its file of names is read
pub refused_unnamed : (bytes : List ℕ) (result : Result NamedRun Fault) (fault : Fault) (before : Option (List ℕ)) → IsErrAnd result (λ f. f ≡ fault)
    → RefusesRecord {A = NamedRun} (Err fault) before → RefusesRenamed bytes result before
refused_unnamed bytes (Ok run) fault before h wrong = absurd h
refused_unnamed bytes (Err f) fault before h wrong =
    subst (λ (x : Fault). RefusesRenamed {A = NamedRun} bytes (Err x) before) (sym h) (go fault wrong)
  where
    go : (x : Fault) → RefusesRecord {A = NamedRun} (Err x) before → RefusesRenamed {A = NamedRun} bytes (Err x) before
    go (faults.Input (inputs.Record r)) w = w
    go (faults.Input (inputs.Beside (files.Names r))) w = absurd w
    go (faults.Input (inputs.Beside (files.Program r))) w = w
    go (faults.Input (inputs.Beside (files.Record r))) w = w
    go (faults.Input (inputs.Beside (files.Stray r))) w = w
    go (faults.Input (inputs.Program r)) w = w
    go (faults.Input (inputs.Cown n)) w = w
    go (faults.Input (inputs.Early n)) w = w
    go (faults.Input (inputs.Edit n e)) w = w
    go (faults.Input (inputs.Def n)) w = w
    go (faults.Input (inputs.Stray r)) w = w
    go (faults.Words r) w = w
    go (faults.Run r) w = w
    go faults.Unscheduled w = w
    go (faults.Window c) w = w
    go (faults.End c) w = w
    go (faults.Means r) w = w
