-- What becomes of a record with names that changes are asked of.
use Rattle.std.proofs.Common.{◌≡◌, ℕ, inl, inr, ◌⊎◌, List, Bool, Option, Some, None, Result, Ok, Err, sym, subst}
use Rattle.std.specs.Result.{IsErrAnd}
use Rattle.boc_runs.specs.declared.rows.Row.{Row}
use Rattle.boc_plans.specs.declared.sharing.Sharing.{Sharing}
use Rattle.boc_words.specs.declared.asked.AskedChanges.{AskedChanges}
use Rattle.boc_words.specs.declared.asked.WhatIfFile.{WhatIfFile}
use Rattle.boc_words.specs.declared.asked.WhatIfFile.TheVariants as names_from
use Rattle.boc_run_commands.specs.declared.fault.Fault.{Fault}
use Rattle.boc_run_commands.specs.declared.fault.Fault.TheVariants as faults
use Rattle.boc_run_commands.specs.declared.fault.FileFault.TheVariants as files
use Rattle.boc_run_commands.specs.declared.fault.InputFault.TheVariants as inputs
use Rattle.boc_run_commands.specs.declared.fault.Want.{Want}
use Rattle.boc_run_commands.specs.declared.named_run.NamedRun.{NamedRun}
use Rattle.boc_run_commands.specs.Commands.{AnswersInput, Leaves}
use Rattle.boc_run_commands.specs.NamedRuns.{HasRun, IsNamedRecord, ReadsNamed, RefusesNamedRecord}
use Rattle.boc_plan_commands.specs.WhatIfAnswers.{IsMeasuredReport, IsOfMeasured, IsWhatIfAnswer, RefusesMeasured, RefusesSupposed, RefusesWhatIf}
use Rattle.boc_words.specs.declared.asked.AskedPlans.{AskedPlans}
use Rattle.boc_run_commands.proofs.Asked.{leaves_as, told}

-- the record is refused, or the file beside it
pub refused_before : (file : Option WhatIfFile) (bytes : List ℕ) (changes : AskedChanges) (result : Result (Unit {0}) Fault)
    (fault : Fault) (before : Option (List ℕ)) → IsErrAnd result (λ f. f ≡ fault) → RefusesNamedRecord {A = NamedRun} file bytes (Err fault) before
    → RefusesWhatIf file bytes changes result before
refused_before file bytes changes (Ok done) fault before h is = absurd h
refused_before file bytes changes (Err f) fault before h is =
    subst (λ (x : Fault). RefusesWhatIf {A = Unit {0}} file bytes changes (Err x) before) (sym h) (go file fault is)
  where
    go : (o : Option WhatIfFile) (x : Fault) → RefusesNamedRecord {A = NamedRun} o bytes (Err x) before
        → RefusesWhatIf {A = Unit {0}} o bytes changes (Err x) before
    go None (faults.Input (inputs.Cown n)) is = absurd is
    go None (faults.Input (inputs.Early n)) is = absurd is
    go None (faults.Input (inputs.Edit n f)) is = absurd is
    go None (faults.Input (inputs.Def n)) is = absurd is
    go None (faults.Input (inputs.Program r)) is = is
    go None (faults.Input (inputs.Record r)) is = is
    go None (faults.Input (inputs.Stray r)) is = is
    go None (faults.Input (inputs.Beside r)) is = is
    go None (faults.Words w) is = is
    go None (faults.Run r) is = is
    go None faults.Unscheduled is = is
    go None (faults.Window c) is = is
    go None (faults.End c) is = is
    go None (faults.Means w) is = is
    go (Some (names_from.Program path)) (faults.Input (inputs.Cown n)) is = absurd is
    go (Some (names_from.Program path)) (faults.Input (inputs.Early n)) is = absurd is
    go (Some (names_from.Program path)) (faults.Input (inputs.Edit n f)) is = absurd is
    go (Some (names_from.Program path)) (faults.Input (inputs.Def n)) is = absurd is
    go (Some (names_from.Program path)) (faults.Input (inputs.Program r)) is = is
    go (Some (names_from.Program path)) (faults.Input (inputs.Record r)) is = is
    go (Some (names_from.Program path)) (faults.Input (inputs.Stray r)) is = is
    go (Some (names_from.Program path)) (faults.Input (inputs.Beside (files.Program r))) is = is
    go (Some (names_from.Program path)) (faults.Input (inputs.Beside (files.Record r))) is = is
    go (Some (names_from.Program path)) (faults.Input (inputs.Beside (files.Stray r))) is = is
    go (Some (names_from.Program path)) (faults.Input (inputs.Beside (files.Names r))) is = is
    go (Some (names_from.Program path)) (faults.Words w) is = is
    go (Some (names_from.Program path)) (faults.Run r) is = is
    go (Some (names_from.Program path)) faults.Unscheduled is = is
    go (Some (names_from.Program path)) (faults.Window c) is = is
    go (Some (names_from.Program path)) (faults.End c) is = is
    go (Some (names_from.Program path)) (faults.Means w) is = is
    go (Some (names_from.Record path)) (faults.Input (inputs.Cown n)) is = absurd is
    go (Some (names_from.Record path)) (faults.Input (inputs.Early n)) is = absurd is
    go (Some (names_from.Record path)) (faults.Input (inputs.Edit n f)) is = absurd is
    go (Some (names_from.Record path)) (faults.Input (inputs.Def n)) is = absurd is
    go (Some (names_from.Record path)) (faults.Input (inputs.Program r)) is = is
    go (Some (names_from.Record path)) (faults.Input (inputs.Record r)) is = is
    go (Some (names_from.Record path)) (faults.Input (inputs.Stray r)) is = is
    go (Some (names_from.Record path)) (faults.Input (inputs.Beside r)) is = is
    go (Some (names_from.Record path)) (faults.Words w) is = is
    go (Some (names_from.Record path)) (faults.Run r) is = is
    go (Some (names_from.Record path)) faults.Unscheduled is = is
    go (Some (names_from.Record path)) (faults.Window c) is = is
    go (Some (names_from.Record path)) (faults.End c) is = is
    go (Some (names_from.Record path)) (faults.Means w) is = is
    go (Some (names_from.Names path)) (faults.Input (inputs.Cown n)) is = absurd is
    go (Some (names_from.Names path)) (faults.Input (inputs.Early n)) is = absurd is
    go (Some (names_from.Names path)) (faults.Input (inputs.Edit n f)) is = absurd is
    go (Some (names_from.Names path)) (faults.Input (inputs.Def n)) is = absurd is
    go (Some (names_from.Names path)) (faults.Input (inputs.Program r)) is = is
    go (Some (names_from.Names path)) (faults.Input (inputs.Record r)) is = is
    go (Some (names_from.Names path)) (faults.Input (inputs.Stray r)) is = is
    go (Some (names_from.Names path)) (faults.Input (inputs.Beside (files.Program r))) is = is
    go (Some (names_from.Names path)) (faults.Input (inputs.Beside (files.Record r))) is = is
    go (Some (names_from.Names path)) (faults.Input (inputs.Beside (files.Stray r))) is = is
    go (Some (names_from.Names path)) (faults.Input (inputs.Beside (files.Names r))) is = is
    go (Some (names_from.Names path)) (faults.Words w) is = is
    go (Some (names_from.Names path)) (faults.Run r) is = is
    go (Some (names_from.Names path)) faults.Unscheduled is = is
    go (Some (names_from.Names path)) (faults.Window c) is = is
    go (Some (names_from.Names path)) (faults.End c) is = is
    go (Some (names_from.Names path)) (faults.Means w) is = is

-- want of memory and of a device are never a refusal
wanting : (file : Option WhatIfFile) (bytes : List ℕ) (before : Option (List ℕ)) (want : Want)
    → RefusesNamedRecord {A = Unit {0}} file bytes (Err (faults.Means want)) before
wanting None bytes before want = tt
wanting (Some (names_from.Program path)) bytes before want = tt
wanting (Some (names_from.Record path)) bytes before want = tt
wanting (Some (names_from.Names path)) bytes before want = tt

neither : {A B : Type 0} → (A → ⊥) → (B → ⊥) → A ⊎ B → ⊥
neither first second (inl a) = first a
neither first second (inr b) = second b

-- what is asked for is refused, in the names of the record that was read
pub refused_asked : (file : Option WhatIfFile) (bytes : List ℕ) (changes : AskedChanges) (run : NamedRun)
    (result : Result (Unit {0}) Fault) (before after : Option (List ℕ)) → ReadsNamed file bytes (Ok run) before after
    → RefusesMeasured run.names changes run.rows result → RefusesWhatIf file bytes changes result before
refused_asked file bytes changes run (Ok done) before after read h = tt
refused_asked file bytes changes run (Err fault) before after read h = go fault h
  where
    has : HasRun (IsNamedRecord file bytes read.0) run
    has = read.3

    supposed : (x : Fault) → IsOfMeasured run.names changes run.rows x → RefusesSupposed file bytes changes x before
    supposed x is = record {
      recorded = has.recorded;
      names = run.names;
      tells = told (λ t. IsNamedRecord file bytes t has.recorded run.names) before after read.0 read.1 read.2 has.named;
      unfit = subst (λ (rows : List Row). IsOfMeasured run.names changes rows x) has.rows_are is;
    }

    go : (x : Fault) → RefusesMeasured {A = Unit {0}} run.names changes run.rows (Err x) → RefusesWhatIf {A = Unit {0}} file bytes changes (Err x) before
    go (faults.Means w) is = wanting file bytes before w
    go (faults.Input (inputs.Cown n)) is = supposed (faults.Input (inputs.Cown n)) is
    go (faults.Input (inputs.Early n)) is = supposed (faults.Input (inputs.Early n)) is
    go (faults.Input (inputs.Edit n f)) is = supposed (faults.Input (inputs.Edit n f)) is
    go (faults.Input (inputs.Def n)) is = supposed (faults.Input (inputs.Def n)) is
    go (faults.Input (inputs.Program r)) is = absurd (neither (λ no. no) (neither (λ after. after.unmeant) (λ after. after.unfit)) is.unfit)
    go (faults.Input (inputs.Record r)) is = absurd (neither (λ no. no) (neither (λ after. after.unmeant) (λ after. after.unfit)) is.unfit)
    go (faults.Input (inputs.Stray r)) is = absurd (neither (λ no. no) (neither (λ after. after.unmeant) (λ after. after.unfit)) is.unfit)
    go (faults.Input (inputs.Beside r)) is = absurd (neither (λ no. no) (neither (λ after. after.unmeant) (λ after. after.unfit)) is.unfit)
    go (faults.Words w) is = absurd (neither (λ no. no) (neither (λ after. after.unmeant) (λ after. after.unfit)) is.unfit)
    go (faults.Run r) is = absurd (neither (λ no. no) (neither (λ after. after.unmeant) (λ after. after.unfit)) is.unfit)
    go faults.Unscheduled is = absurd (neither (λ no. no) (neither (λ after. after.unmeant) (λ after. after.unfit)) is.unfit)
    go (faults.Window c) is = absurd (neither (λ no. no) (neither (λ after. after.unmeant) (λ after. after.unfit)) is.unfit)
    go (faults.End c) is = absurd (neither (λ no. no) (neither (λ after. after.unmeant) (λ after. after.unfit)) is.unfit)

-- what goes out of it answers the input
pub written_named : (file : Option WhatIfFile) (bytes : List ℕ) (changes : AskedChanges) (sharing : Sharing) (plans : AskedPlans)
    (short : Bool) (run : NamedRun) (result : Result (Unit {0}) Fault) (before after old new : Option (List ℕ))
    → ReadsNamed file bytes (Ok run) before after → Leaves (IsMeasuredReport run.names changes sharing plans short run.rows) result old new
    → Leaves (AnswersInput (IsWhatIfAnswer file bytes changes sharing plans short) before after) result old new
written_named file bytes changes sharing plans short run result before after old new read left =
    let has : HasRun (IsNamedRecord file bytes read.0) run = read.3 in
    leaves_as (IsMeasuredReport run.names changes sharing plans short run.rows)
    (AnswersInput (IsWhatIfAnswer file bytes changes sharing plans short) before after) result old new (λ made is. record {
      input = read.0;
      taken = read.1;
      whole = read.2;
      answers = record {
        recorded = has.recorded;
        names = run.names;
        named = has.named;
        report = subst (λ (rows : List Row). IsMeasuredReport run.names changes sharing plans short rows made) has.rows_are is;
      };
    }) left
