-- What is told and refused of a file beside an input.
use Rattle.std.proofs.Common.{Bool, map, ◌≡◌, ◌∙◌, ℕ, ◌+◌, ◌≤◌, List, length, Option, Some, Result, Ok, Err, MatchResult, refl, sym, ap, subst, ℤ}
use Rattle.std.specs.Result.{IsErrAnd}
use Rattle.boc_text.specs.Streams.{ReadsWhole}
use Rattle.boc_follow.specs.declared.stray.StrayFault.{StrayFault}
use Rattle.boc_follow.specs.declared.stray.StrayFaultKind.{StrayFaultKind}
use Rattle.boc_follow.specs.declared.stray.StrayFaultKind.TheVariants as strays
use Rattle.boc_follow.specs.Strays.{Strays, Tells}
use Rattle.boc_follow.specs.Following.{Following}
use Rattle.boc_machine_laws.proofs.Members.{values_length}
use Rattle.boc_program.specs.declared.cown.Cown.{Cown}
use Rattle.boc_program.specs.Programs.{cown_count}
use Rattle.boc_runs.specs.declared.event.Event.{Event}
use Rattle.boc_program.specs.declared.limits.TheConstants.{MOST_TEXT}
use Rattle.boc_program.specs.declared.program.Program.{Program}
use Rattle.boc_reader.specs.FaultMeanings.{IsRefusalOf}
use Rattle.boc_reader.specs.Spells.{Spells}
use Rattle.boc_reader.specs.declared.fault.ReadFault.{ReadFault}
use Rattle.boc_reader.specs.declared.fault.ReadFaultKind.{ReadFaultKind}
use Rattle.boc_reader.specs.declared.fault.ReadFaultKind.TheVariants as kinds
use Rattle.boc_record.specs.Reading.{IsFault, TakesRecord}
use Rattle.boc_record.specs.RecordTexts.{IsTextOf}
use Rattle.boc_record.specs.declared.fault.RecordFault.{RecordFault}
use Rattle.boc_record.specs.declared.verdict.RecordFaultKind.{RecordFaultKind}
use Rattle.boc_record.specs.declared.verdict.RecordFaultKind.TheVariants as records
use Rattle.boc_runs.specs.Records.{Recorded, IsRecordOf}
use Rattle.boc_runs.specs.Run.{config_of}
use Rattle.boc_run_commands.specs.declared.fault.Fault.{Fault}
use Rattle.boc_run_commands.specs.declared.fault.Fault.TheVariants as faults
use Rattle.boc_run_commands.specs.declared.fault.InputFault.TheVariants as inputs
use Rattle.boc_run_commands.specs.declared.fault.FileFault.TheVariants as files
use Rattle.boc_run_commands.specs.declared.fault.Want.TheVariants as wants
use Rattle.boc_run_commands.specs.Beside.{IsCheckAgainstAnswer, IsOfProgramFile, IsOfRecordFile, IsOfStray, IsOfStrayFile, IsOfValuesAfter}
use Rattle.boc_run_commands.specs.Beside.{RefusesAgainst, RefusesValuesAfter}
use Rattle.boc_reader.specs.Listed.{ListsDefs}
use Rattle.boc_reader.specs.declared.listing.DefListing.{DefListing}
use Rattle.boc_run_commands.specs.declared.notes.Told.{Told}
use Rattle.boc_run_commands.specs.Notes.{AreRunNotes, AreWanted, TellsValuesAfter, notes_of_rows, run_names}
use Rattle.boc_run_commands.proofs.Noting.{wanted_as}
use Rattle.boc_run_commands.specs.Commands.{IsProgram, IsRecordRefusal}
use Rattle.boc_run_commands.specs.Faults.{of_read_beside, of_record, of_record_beside, of_stray, of_stray_beside}
use Rattle.boc_ends_report.specs.ValueTexts.{values_text}
use Rattle.boc_run_commands.specs.CheckTexts.{check_text}
use Rattle.boc_run_commands.proofs.Asked.{told}

-- ---- a file

-- a file that should spell a program is refused for what is wrong with it
pub refused_program : (text : List ℕ) (r : ReadFault) → IsRefusalOf r text → IsOfProgramFile text (of_read_beside r r.kind)
refused_program text r is = go r.kind refl
  where
    go : (kind : ReadFaultKind) → r.kind ≡ kind → IsOfProgramFile text (of_read_beside r kind)
    go kinds.Memory same = tt
    go _ same = (is, λ other. cc)

-- what was read of a file is its record
pub record_in : (text : List ℕ) (r : Recorded) (before after : Option (List ℕ)) → before ≡ Some text → TakesRecord r before after → IsTextOf text r
record_in text r before after same read =
    let given : TakesRecord r (Some text) after = subst (λ b. TakesRecord r b after) same read in
    told (λ t. IsTextOf t r) (Some text) after given.text given.taken given.over given.text_of

-- a file that should be the text of a record is refused for its first fault
pub refused_record : (text : List ℕ) (fault : RecordFault) (before after : Option (List ℕ)) → before ≡ Some text
    → IsFault fault.kind fault.line before after → IsOfRecordFile text (of_record_beside fault fault.kind)
refused_record text fault before after same is = go fault.kind refl (subst (λ b. IsFault fault.kind fault.line b after) same is)
  where
    go : (kind : RecordFaultKind) → fault.kind ≡ kind → IsFault kind fault.line (Some text) after → IsOfRecordFile text (of_record_beside fault kind)
    go records.Memory own is = tt
    go records.Device own is = tt
    go kind own is = subst (λ k. IsRecordRefusal fault k (Some text)) (sym own) is

-- ---- a record that strays

-- the fault of a record that strays from a program
pub strayed : (program : Program) (r : Recorded) (fault : StrayFault) → Tells program r fault.kind fault.line
    → IsOfStray program r (of_stray fault fault.kind)
strayed program r fault tells = go fault.kind refl tells
  where
    go : (kind : StrayFaultKind) → fault.kind ≡ kind → Tells program r kind fault.line → IsOfStray program r (of_stray fault kind)
    go strays.Memory own tells = tt
    go kind own tells = record { strays = subst (λ k. Strays program r k fault.line) (sym own) tells.0; no_run = tells.1 }

-- the same of a record that stands in a file
pub strayed_beside : (program : Program) (r : Recorded) (fault : StrayFault) → Tells program r fault.kind fault.line
    → IsOfStrayFile program r (of_stray_beside fault fault.kind)
strayed_beside program r fault tells = go fault.kind refl tells
  where
    go : (kind : StrayFaultKind) → fault.kind ≡ kind → Tells program r kind fault.line → IsOfStrayFile program r (of_stray_beside fault kind)
    go strays.Memory own tells = tt
    go kind own tells = record { strays = subst (λ k. Strays program r k fault.line) (sym own) tells.0; no_run = tells.1 }

-- ---- `check` with a program

-- the file is refused
pub refused_file : {A : Type 0} (beside : List ℕ) (result : Result A Fault) (fault : Fault) (before : Option (List ℕ)) → IsErrAnd result (λ f. f ≡ fault)
    → IsOfProgramFile beside fault → RefusesAgainst beside result before
refused_file {A = A} beside (Ok done) fault before h is = absurd h
refused_file {A = A} beside (Err f) fault before h is = subst (λ (x : Fault). RefusesAgainst {A = A} beside (Err x) before) (sym h) (go fault is)
  where
    go : (x : Fault) → IsOfProgramFile beside x → RefusesAgainst {A = A} beside (Err x) before
    go (faults.Input (inputs.Beside (files.Program r))) is = is
    go (faults.Means wants.Memory) is = tt
    go _ is = absurd is

-- the input is refused as the text of a record
pub refused_input : {A : Type 0} (beside : List ℕ) (result : Result A Fault) (r : RecordFault) (before after : Option (List ℕ))
    → IsErrAnd result (λ f. f ≡ of_record r r.kind) → IsProgram beside → IsFault r.kind r.line before after → RefusesAgainst beside result before
refused_input {A = A} beside (Ok done) r before after h program is = absurd h
refused_input {A = A} beside (Err f) r before after h program is =
    subst (λ (x : Fault). RefusesAgainst {A = A} beside (Err x) before) (sym h) (go r.kind refl is)
  where
    go : (kind : RecordFaultKind) → r.kind ≡ kind → IsFault kind r.line before after
        → RefusesAgainst {A = A} beside (Err (of_record r kind)) before
    go records.Memory own is = tt
    go records.Device own is = tt
    go kind own is = (program, subst (λ k. IsRecordRefusal r k before) (sym own) is)

-- the record is refused as that of no run of the program
pub refused_stray : {A : Type 0} (beside : List ℕ) (result : Result A Fault) (fault : Fault) (program : Program) (r : Recorded)
    (before after : Option (List ℕ)) → IsErrAnd result (λ f. f ≡ fault) → Spells beside program → TakesRecord r before after
    → IsOfStray program r fault → RefusesAgainst beside result before
refused_stray {A = A} beside (Ok done) fault program r before after h spells read is = absurd h
refused_stray {A = A} beside (Err f) fault program r before after h spells read is =
    subst (λ (x : Fault). RefusesAgainst {A = A} beside (Err x) before) (sym h) (go fault is)
  where
    go : (x : Fault) → IsOfStray program r x → RefusesAgainst {A = A} beside (Err x) before
    go (faults.Input (inputs.Stray s)) is = record {
      program = program;
      spells = spells;
      recorded = r;
      tells = told (λ t. IsTextOf t r) before after read.text read.taken read.over read.text_of;
      strays = is;
    }
    go (faults.Means wants.Memory) is = tt
    go _ is = absurd is

-- the answer to the record that was read
pub checked_against : (beside input : List ℕ) (program : Program) (r : Recorded) (count : ℕ) (made output : List ℕ) → Spells beside program
    → IsTextOf input r → IsRecordOf program r → count ≡ length r.rows → made ≡ check_text count → output ≡ made
    → IsCheckAgainstAnswer beside input output
checked_against beside input program r count made output spells tells run same text is = record {
  program = program;
  recorded = r;
  of_run = record { spells = spells; tells = tells; run = run };
  text = is ∙ text ∙ ap check_text same;
}

-- ---- `values` with a record

-- the values with which a run ends are as many as the program's cowns
pub values_count : (program : Program) (f : Following) (log : List Event) (values : List ℤ) (cowns : List Cown)
    → values ≡ (config_of f.program f.log).values → f ≡ record { program = program; log = log } → cowns ≡ program.cowns
    → length values ≡ cown_count cowns
values_count program f log values cowns are same own =
    ap (λ (vs : List ℤ). length vs) are ∙ values_length f.program f.log ∙ ap (λ (g : Following). cown_count g.program.cowns) same
    ∙ sym (ap cown_count own)

-- the text that was taken is refused, or the file
pub refused_after : (beside : List ℕ) (result : Result (Unit {0}) Fault) (fault : Fault) (text : List ℕ) (before after : Option (List ℕ))
    → IsErrAnd result (λ f. f ≡ fault) → ReadsWhole before after text (MOST_TEXT + 1) → IsOfValuesAfter beside text fault
    → RefusesValuesAfter beside result before after
refused_after beside (Ok done) fault text before after h reads is = absurd h
refused_after beside (Err f) fault text before after h reads is =
    subst (λ (x : Fault). RefusesValuesAfter {A = Unit {0}} beside (Err x) before after) (sym h) (go fault is)
  where
    go : (x : Fault) → IsOfValuesAfter beside text x → RefusesValuesAfter {A = Unit {0}} beside (Err x) before after
    go (faults.Means w) is = tt
    go _ is = record { input = text; taken = reads; known = is }

-- the file is refused, where the text spells a program
pub refused_beside : (beside text : List ℕ) (fault : Fault) → IsProgram text → IsOfRecordFile beside fault → IsOfValuesAfter beside text fault
refused_beside beside text (faults.Input (inputs.Beside (files.Record r))) program is = (program, is)
refused_beside beside text (faults.Means wants.Memory) program is = tt
refused_beside beside text _ program is = absurd is

-- what became of following the file's record
pub answered_after : (beside text : List ℕ) (program : Program) (defs : List DefListing) (quiet : Bool) (r : Recorded) (result : Result Told Fault)
    → Spells text program → ListsDefs text defs → IsTextOf beside r
    → MatchResult result (λ told. IsRecordOf program r × (told.text.items ≡ values_text program.cowns (config_of program r.events).values)
    × AreWanted quiet (λ text. text ≡ notes_of_rows (run_names program (map (λ d. d.name) defs) r.events) r.rows) told.notes.items)
    (IsOfStrayFile program r)
    → MatchResult result (λ told. TellsValuesAfter beside quiet told.notes.items text told.text.items × (length text ≤ MOST_TEXT))
    (IsOfValuesAfter beside text)
answered_after beside text program defs quiet r (Ok told) spells lists tells is = (
  record {
    answer = record { program = program; recorded = r; of_run = record { spells = spells; tells = tells; run = is.0 }; text = is.1 };
    noted = wanted_as quiet _ (AreRunNotes text r) told.notes.items
        (λ notes are. record { program = program; spells = spells; defs = defs; lists = lists; notes_are = are }) is.2;
  },
  spells.short,
)
answered_after beside text program defs quiet r (Err fault) spells lists tells is = go fault is
  where
    go : (x : Fault) → IsOfStrayFile program r x → IsOfValuesAfter beside text x
    go (faults.Input (inputs.Beside (files.Stray s))) is = record { program = program; spells = spells; recorded = r; tells = tells; strays = is }
    go (faults.Means wants.Memory) is = tt
    go _ is = absurd is
