-- A run has one naming: an input, with the file beside it, calls the rows and cowns of one record in one way.
use Rattle.std.proofs.Common.{◌≡◌, ◌∙◌, ℕ, List, [], ◌∷◌, length, map, Option, Some, None, inl, inr, refl, subst, sym}
use Rattle.boc_program.specs.declared.program.Program.{Program}
use Rattle.boc_reader.specs.declared.listing.DefListing.{DefListing}
use Rattle.boc_reader.specs.Listed.{listed}
use Rattle.boc_reader.proofs.Spellings.{one_list, one_program}
use Rattle.boc_record.specs.RecordTexts.{IsTextOf}
use Rattle.boc_record.proofs.OneFault.{one_record}
use Rattle.boc_runs.specs.Records.{IsRecord, Recorded}
use Rattle.boc_runs.specs.Run.{config_of}
use Rattle.boc_names.specs.declared.names.Names.{Names}
use Rattle.boc_names.specs.Names.{AreNamesOf, CallTheSame, Text}
use Rattle.boc_names.proofs.OneName.{one_naming, one_naming_by_file, one_numbering}
use Rattle.boc_words.specs.declared.asked.WhatIfFile.{WhatIfFile}
use Rattle.boc_words.specs.declared.asked.WhatIfFile.TheVariants as names_from
use Rattle.boc_words.specs.declared.asked.RunFile.{RunFile}
use Rattle.boc_words.specs.declared.asked.RunFile.TheVariants as run_files
use Rattle.boc_words.specs.declared.schedule.Schedule.{Schedule}
use Rattle.boc_plan_commands.specs.declared.program_input.Supplied.{Supplied}
use Rattle.boc_plan_commands.specs.declared.program_input.Supplied.TheVariants.{Nothing, Record, Names as NamesFile}
use Rattle.boc_plan_commands.specs.ProgramInputs.{IsProgramRun}
use Rattle.boc_run_commands.specs.NamedRuns.{IsNamedRecord, IsNamedRun, IsOwnRun, IsRecordNumbered, IsRunGiven, IsRunNamed}
use Rattle.boc_commands.proofs.NoProgram.{record_spells_none}
use Rattle.boc_run_commands.proofs.OneProgram.{same_program}

-- ---- names

-- the names of defs that are listed alike
same_called : (defs others : List DefListing) → map listed defs ≡ map listed others → map (λ d. d.name) defs ≡ map (λ d. d.name) others
same_called [] [] e = refl
same_called [] (o ∷ others) e = absurd cc
same_called (d ∷ defs) [] e = absurd cc
same_called (d ∷ defs) (o ∷ others) e =
    let first : listed d ≡ listed o = cc in
    let rest : map listed defs ≡ map listed others = cc in
    λ i. (first i).name ∷ same_called defs others rest i

one_named : (text : List ℕ) (recorded : Recorded) (names other : Names) → IsRunNamed text recorded names → IsRunNamed text recorded other
    → CallTheSame names other
one_named text recorded names other a b =
    let program : a.program ≡ b.program = same_program a.program b.program (one_program text a.program b.program a.spells b.spells) in
    let called : map (λ d. d.name) a.defs ≡ map (λ d. d.name) b.defs = same_called a.defs b.defs (one_list text a.defs b.defs a.lists b.lists) in
    one_naming b.program (map (λ d. d.name) b.defs) (config_of b.program recorded.events).members names other
    (subst (λ (defs : List Text). AreNamesOf b.program defs (config_of b.program recorded.events).members names) called
    (subst (λ (p : Program). AreNamesOf p (map (λ d. d.name) a.defs) (config_of p recorded.events).members names) program a.names_are))
    b.names_are

one_given : (text file : List ℕ) (recorded : Recorded) (names other : Names) → IsRunGiven text file recorded names → IsRunGiven text file recorded other
    → CallTheSame names other
one_given text file recorded names other a b =
    let program : a.program ≡ b.program = same_program a.program b.program (one_program text a.program b.program a.spells b.spells) in
    let called : map (λ d. d.name) a.defs ≡ map (λ d. d.name) b.defs = same_called a.defs b.defs (one_list text a.defs b.defs a.lists b.lists) in
    one_naming b.program (map (λ d. d.name) b.defs) (config_of b.program recorded.events).members names other
    (subst (λ (defs : List Text). AreNamesOf b.program defs (config_of b.program recorded.events).members names) called
    (subst (λ (p : Program). AreNamesOf p (map (λ d. d.name) a.defs) (config_of p recorded.events).members names) program a.names_are))
    b.names_are

pub one_numbered : (text : List ℕ) (recorded : Recorded) (names other : Names) → IsRecordNumbered text recorded names → IsRecordNumbered text recorded other
    → CallTheSame names other
one_numbered text recorded names other a b = one_numbering (length recorded.rows) recorded.cowns names other a.names_are b.names_are

one_own : (schedule : Schedule) (input : List ℕ) (recorded : Recorded) (names other : Names)
    → IsOwnRun schedule input recorded names → IsOwnRun schedule input recorded other → CallTheSame names other
one_own schedule input recorded names other (inl a) (inl b) = one_named input recorded names other a.named b.named
one_own schedule input recorded names other (inl a) (inr b) = absurd (record_spells_none input recorded a.named.program b.spells a.named.spells)
one_own schedule input recorded names other (inr a) (inl b) = absurd (record_spells_none input recorded b.named.program a.spells b.named.spells)
one_own schedule input recorded names other (inr a) (inr b) = one_numbered input recorded names other a b

-- ---- a run that an input tells of

pub one_named_run : (schedule : Schedule) (file : Option RunFile) (bytes input : List ℕ) (recorded : Recorded) (names other : Names)
    → IsNamedRun schedule file bytes input recorded names → IsNamedRun schedule file bytes input recorded other → CallTheSame names other
one_named_run schedule None bytes input recorded names other a b = one_own schedule input recorded names other a b
one_named_run schedule (Some (run_files.Record path)) bytes input recorded names other a b = one_given input bytes recorded names other a b
one_named_run schedule (Some (run_files.Names path)) bytes input recorded names other a b =
    one_naming_by_file bytes a.base b.base names other (one_own schedule input recorded a.base b.base a.named b.named) a.renamed b.renamed

own_is_record : (schedule : Schedule) (input : List ℕ) (recorded : Recorded) (names : Names) → IsOwnRun schedule input recorded names → IsRecord recorded
own_is_record schedule input recorded names (inl a) = a.named.run.whole
own_is_record schedule input recorded names (inr a) = a.spells.record_is

pub run_is_record : (schedule : Schedule) (file : Option RunFile) (bytes input : List ℕ) (recorded : Recorded) (names : Names)
    → IsNamedRun schedule file bytes input recorded names → IsRecord recorded
run_is_record schedule None bytes input recorded names a = own_is_record schedule input recorded names a
run_is_record schedule (Some (run_files.Record path)) bytes input recorded names a = a.text_of.record_is
run_is_record schedule (Some (run_files.Names path)) bytes input recorded names a = own_is_record schedule input recorded a.base a.named

-- where the input is the text of a record, the run is the one of that record
own_is_told : (schedule : Schedule) (input : List ℕ) (told recorded : Recorded) (names : Names) → IsTextOf input told
    → IsOwnRun schedule input recorded names → recorded ≡ told
own_is_told schedule input told recorded names is (inl a) = absurd (record_spells_none input told a.named.program is a.named.spells)
own_is_told schedule input told recorded names is (inr a) = one_record input recorded told a.spells is

run_is_told : (schedule : Schedule) (file : Option RunFile) (bytes input : List ℕ) (told recorded : Recorded) (names : Names) → IsTextOf input told
    → IsNamedRun schedule file bytes input recorded names → recorded ≡ told
run_is_told schedule None bytes input told recorded names is a = own_is_told schedule input told recorded names is a
run_is_told schedule (Some (run_files.Record path)) bytes input told recorded names is a = absurd (record_spells_none input told a.program is a.spells)
run_is_told schedule (Some (run_files.Names path)) bytes input told recorded names is a = own_is_told schedule input told recorded a.base is a.named

pub same_record : (schedule : Schedule) (file : Option RunFile) (bytes input : List ℕ) (told : Recorded) → IsTextOf input told → (recorded other : Recorded)
    (names others : Names) → IsNamedRun schedule file bytes input recorded names → IsNamedRun schedule file bytes input other others → recorded ≡ other
same_record schedule file bytes input told is recorded other names others a b =
    run_is_told schedule file bytes input told recorded names is a ∙ sym (run_is_told schedule file bytes input told other others is b)

-- ---- the run of a program

pub one_program_named : (schedule : Schedule) (supplied : Supplied) (file text : List ℕ) (recorded : Recorded) (names other : Names)
    → IsProgramRun schedule supplied file text recorded names → IsProgramRun schedule supplied file text recorded other → CallTheSame names other
one_program_named schedule Nothing file text recorded names other a b = one_named text recorded names other a.named b.named
one_program_named schedule Record file text recorded names other a b = one_given text file recorded names other a b
one_program_named schedule NamesFile file text recorded names other a b =
    one_naming_by_file file a.base b.base names other (one_named text recorded a.base b.base a.named.named b.named.named) a.renamed b.renamed

pub program_is_record : (schedule : Schedule) (supplied : Supplied) (file text : List ℕ) (recorded : Recorded) (names : Names)
    → IsProgramRun schedule supplied file text recorded names → IsRecord recorded
program_is_record schedule Nothing file text recorded names a = a.named.run.whole
program_is_record schedule Record file text recorded names a = a.text_of.record_is
program_is_record schedule NamesFile file text recorded names a = a.named.named.run.whole

-- the text of a record spells no program
pub no_run_of_record : (schedule : Schedule) (supplied : Supplied) (file text : List ℕ) (told recorded : Recorded) (names : Names) → IsTextOf text told
    → IsProgramRun schedule supplied file text recorded names → ⊥
no_run_of_record schedule Nothing file text told recorded names is a = record_spells_none text told a.named.program is a.named.spells
no_run_of_record schedule Record file text told recorded names is a = record_spells_none text told a.program is a.spells
no_run_of_record schedule NamesFile file text told recorded names is a =
    record_spells_none text told a.named.named.program is a.named.named.spells

-- ---- a record with names

pub one_named_record : (file : Option WhatIfFile) (bytes input : List ℕ) (recorded : Recorded) (names other : Names)
    → IsNamedRecord file bytes input recorded names → IsNamedRecord file bytes input recorded other → CallTheSame names other
one_named_record None bytes input recorded names other a b = one_numbered input recorded names other a b
one_named_record (Some (names_from.Program path)) bytes input recorded names other a b = one_given bytes input recorded names other a b
one_named_record (Some (names_from.Record path)) bytes input recorded names other a b = one_numbered input recorded names other a b
one_named_record (Some (names_from.Names path)) bytes input recorded names other a b =
    one_naming_by_file bytes a.base b.base names other (one_numbered input recorded a.base b.base a.named b.named) a.renamed b.renamed

-- the input is the text of the record
pub is_text_of : (file : Option WhatIfFile) (bytes input : List ℕ) (recorded : Recorded) (names : Names) → IsNamedRecord file bytes input recorded names
    → IsTextOf input recorded
is_text_of None bytes input recorded names a = a.spells
is_text_of (Some (names_from.Program path)) bytes input recorded names a = a.text_of
is_text_of (Some (names_from.Record path)) bytes input recorded names a = a.spells
is_text_of (Some (names_from.Names path)) bytes input recorded names a = a.named.spells
