-- What is told of rows that come from a record, or from the run of a program.
use Rattle.std.proofs.Common.{◌≡◌, ◌∙◌, ℕ, Bool, true, inr, List, Option, Result, Ok, Err, refl, ap, sym, subst}
use Rattle.boc_runs.specs.declared.rows.Row.{Row}
use Rattle.boc_runs.specs.Records.{Recorded}
use Rattle.boc_record.specs.RecordTexts.{IsTextOf}
use Rattle.boc_names.specs.Names.{texts_of}
use Rattle.boc_names.specs.declared.names.Names.{Names}
use Rattle.boc_plans.specs.declared.sharing.Sharing.{Sharing}
use Rattle.boc_plans.specs.Seen.{seen}
use Rattle.boc_plans.specs.Greedy.{IsSpan}
use Rattle.boc_plans.specs.Plans.{work_of}
use Rattle.boc_greedy.specs.Curves.{IsCurve}
use Rattle.boc_greedy.specs.declared.points.CurvePoint.{CurvePoint}
use Rattle.boc_report.specs.Texts.{curve_text}
use Rattle.boc_words.specs.declared.asked.AskedChanges.{AskedChanges}
use Rattle.boc_words.specs.declared.asked.AskedCurve.{AskedCurve}
use Rattle.boc_words.specs.declared.asked.AskedPlans.{AskedPlans}
use Rattle.boc_words.specs.declared.asked.AskedProfile.{AskedProfile}
use Rattle.boc_words.specs.declared.asked.AskedSweep.{AskedSweep}
use Rattle.boc_words.specs.declared.schedule.Schedule.{Schedule}
use Rattle.boc_run_commands.specs.declared.fault.Fault.{Fault}
use Rattle.boc_run_commands.specs.declared.named_run.NamedRun.{NamedRun}
use Rattle.boc_plan_commands.specs.declared.program_input.Supplied.{Supplied}
use Rattle.boc_plan_commands.specs.declared.program_input.Supplied.TheVariants.{Nothing, Record, Names as NamesFile}
use Rattle.boc_run_commands.specs.declared.fault.Fault.TheVariants as faults
use Rattle.boc_run_commands.specs.Answers.{IsCurveAnswer, IsCurveTold, IsReport}
use Rattle.boc_run_commands.specs.Commands.{AnswersInput, Leaves}
use Rattle.boc_run_commands.specs.Measured.{IsMeasured}
use Rattle.boc_run_commands.specs.NamedRuns.{AreRenamed, HasRun, IsRecordNumbered, ReadsRun}
use Rattle.boc_run_commands.specs.Notes.{AreWanted, notes_of_rows}
use Rattle.boc_plan_commands.specs.Tells.{TellsProgramProfile}
use Rattle.boc_plan_commands.specs.ProgramInputs.{IsProgramCurve, IsProgramRun, RefusesEither}
use Rattle.boc_plan_commands.specs.SweepAnswers.{IsNamedSweep, IsNumberedSweep, IsProgramSweep, IsRecordSweep, IsSwept, are_named}
use Rattle.boc_plan_commands.specs.WhatIfAnswers.{IsMeasuredReport, IsOfMeasured, IsOfWhatIf, IsProgramWhatIf, RefusesMeasured}
use Rattle.boc_input.specs.Taken.{TakesText}
use Rattle.boc_run_commands.proofs.Asked.{leaves_as}
use Rattle.boc_run_commands.proofs.MeasuredRuns.{measured_of}

-- ---- curves

-- the curve of some rows, from those that plans were made for
pub curve_made : (sharing kept : Sharing) (most : ℕ) (own rows : List Row) (work span : ℕ) (points read : List CurvePoint) (made output : List ℕ)
    → rows ≡ own → kept ≡ sharing → work ≡ work_of rows → IsSpan (seen kept rows) span → IsCurve (seen kept rows) most points → read ≡ points
    → made ≡ curve_text work span read → output ≡ made → IsCurveTold sharing most own output
curve_made sharing kept most own rows work span points read made output same way work_is span_is curve are text is = record {
  span = span;
  span_is = subst (λ s. IsSpan (seen s own) span) way (subst (λ xs. IsSpan (seen kept xs) span) same span_is);
  points = points;
  curve = subst (λ s. IsCurve (seen s own) most points) way (subst (λ xs. IsCurve (seen kept xs) most points) same curve);
  text = is ∙ text ∙ ap (λ w. curve_text w span read) (work_is ∙ ap work_of same) ∙ ap (curve_text (work_of own) span) are;
}

-- of a record
pub curve_answer : (sharing : Sharing) (most : ℕ) (input : List ℕ) (r : Recorded) (rows : List Row) (output : List ℕ) → IsTextOf input r → rows ≡ r.rows
    → IsCurveTold sharing most rows output → IsCurveAnswer sharing most input output
curve_answer sharing most input r rows output spells same told =
    record { recorded = r; spells = spells; told = subst (λ (list : List Row). IsCurveTold sharing most list output) same told }

-- of the run of a program
pub program_curve : (asked : AskedCurve) (supplied : Supplied) (file input : List ℕ) (run after : NamedRun) (output : List ℕ)
    → HasRun (IsProgramRun asked.schedule supplied file input) run → IsMeasured asked.typical run after
    → IsCurveTold asked.sharing asked.most after.rows output → IsProgramCurve asked supplied file input output
program_curve asked supplied file input run after output has is told = record {
  recorded = has.recorded;
  names = run.names;
  run = has.named;
  measured = after.rows;
  measured_are = measured_of asked.typical (IsProgramRun asked.schedule supplied file input) run after has is;
  told = told;
}

-- ---- reports

pub program_profile : (asked : AskedProfile) (supplied : Supplied) (file notes input : List ℕ) (run after : NamedRun) (output : List ℕ)
    → HasRun (IsProgramRun asked.schedule supplied file input) run
    → AreWanted asked.quiet (λ told. told ≡ notes_of_rows (texts_of run.names.rows.items) run.rows) notes
    → IsMeasured asked.typical run after → IsReport (seen asked.sharing after.rows) asked.plans output
    → TellsProgramProfile asked supplied file notes input output
program_profile asked supplied file notes input run after output has noted is report = record {
  recorded = has.recorded;
  names = run.names;
  run = has.named;
  measured = after.rows;
  measured_are = measured_of asked.typical (IsProgramRun asked.schedule supplied file input) run after has is;
  report = report;
  noted = subst (λ (rows : List Row). AreWanted asked.quiet (λ told. told ≡ notes_of_rows (texts_of run.names.rows.items) rows) notes) has.rows_are noted;
}

-- ---- sweeps

pub program_sweep : (asked : AskedSweep) (supplied : Supplied) (file input : List ℕ) (run after : NamedRun) (named : Bool) (output : List ℕ)
    → HasRun (IsProgramRun asked.schedule supplied file input) run → IsMeasured asked.typical run after → named ≡ are_named asked supplied
    → IsSwept after.rows after.names asked named output → IsProgramSweep asked supplied file input output
program_sweep asked supplied file input run after named output has measured is told = record {
  recorded = has.recorded;
  names = run.names;
  run = has.named;
  measured = after.rows;
  measured_are = measured_of asked.typical (IsProgramRun asked.schedule supplied file input) run after has measured;
  told = subst (λ (b : Bool). IsSwept after.rows run.names asked b output) is
      (subst (λ (names : Names). IsSwept after.rows names asked named output) measured.names_are told);
}

-- ---- changes

pub program_whatif : (schedule : Schedule) (supplied : Supplied) (file : List ℕ) (changes : AskedChanges) (sharing : Sharing)
    (plans : AskedPlans) (short : Bool) (input : List ℕ) (run : NamedRun) (output : List ℕ) → HasRun (IsProgramRun schedule supplied file input) run
    → IsMeasuredReport run.names changes sharing plans short run.rows output
    → IsProgramWhatIf schedule supplied file changes sharing plans short input output
program_whatif schedule supplied file changes sharing plans short input run output has told = record {
  recorded = has.recorded;
  names = run.names;
  run = has.named;
  report = subst (λ (rows : List Row). IsMeasuredReport run.names changes sharing plans short rows output) has.rows_are told;
}

-- what is asked for is refused, of the run of a program
pub whatif_refused : (always_on : Type 0) (schedule : Schedule) (supplied : Supplied) (file : List ℕ) (changes : AskedChanges)
    (IsOfRecord : Fault → Option (List ℕ) → Type 0) (result : Result (Unit {0}) Fault) (before after : Option (List ℕ)) (text : List ℕ) (run : NamedRun)
    → TakesText before after text → HasRun (IsProgramRun schedule supplied file text) run → RefusesMeasured run.names changes run.rows result
    → RefusesEither IsOfRecord (IsOfWhatIf always_on schedule supplied file changes) result before after
whatif_refused always_on schedule supplied file changes IsOfRecord (Ok done) before after text run takes has wrong = tt
whatif_refused always_on schedule supplied file changes IsOfRecord (Err fault) before after text run takes has wrong = go fault wrong
  where
    of : (x : Fault) → IsOfMeasured run.names changes run.rows x → IsOfWhatIf always_on schedule supplied file changes text x
    of x w = inr (record {
      recorded = has.recorded;
      names = run.names;
      run = has.named;
      unfit = subst (λ (rows : List Row). IsOfMeasured run.names changes rows x) has.rows_are w;
    })

    go : (x : Fault) → RefusesMeasured {A = Unit {0}} run.names changes run.rows (Err x)
        → RefusesEither {A = Unit {0}} IsOfRecord (IsOfWhatIf always_on schedule supplied file changes) (Err x) before after
    go (faults.Means w) w' = tt
    go (faults.Words r) w = inr (text, takes, of (faults.Words r) w)
    go (faults.Input r) w = inr (text, takes, of (faults.Input r) w)
    go (faults.Run r) w = inr (text, takes, of (faults.Run r) w)
    go faults.Unscheduled w = inr (text, takes, of faults.Unscheduled w)
    go (faults.Window c) w = inr (text, takes, of (faults.Window c) w)
    go (faults.End c) w = inr (text, takes, of (faults.End c) w)

-- ---- a record with a file of names

-- what goes out of a sweep over its rows answers the input
pub sweep_named : (asked : AskedSweep) (file : List ℕ) (run measured : NamedRun) (result : Result (Unit {0}) Fault) (before after old new : Option (List ℕ))
    → ReadsRun (λ input recorded names. AreRenamed (λ base. IsRecordNumbered input recorded base) file names) (Ok run) before after
    → IsMeasured asked.typical run measured → Leaves (IsSwept measured.rows measured.names asked true) result old new
    → Leaves (AnswersInput (IsNamedSweep asked file) before after) result old new
sweep_named asked file run measured result before after old new read is left =
    leaves_as (IsSwept measured.rows measured.names asked true) (AnswersInput (IsNamedSweep asked file) before after) result old new (λ output told. record {
      input = read.0;
      taken = read.1;
      whole = read.2;
      answers = record {
        recorded = read.3.recorded;
        names = run.names;
        named = read.3.named;
        measured = measured.rows;
        measured_are = measured_of asked.typical _ run measured read.3 is;
        told = subst (λ (names : Names). IsSwept measured.rows names asked true output) is.names_are told;
      };
    }) left

-- and is one of a record
pub record_named : (asked : AskedSweep) (supplied : Supplied) (file input output : List ℕ) → supplied ≡ NamesFile → IsNamedSweep asked file input output
    → IsRecordSweep asked supplied file input output
record_named asked supplied file input output is told = subst (λ (s : Supplied). IsRecordSweep asked s file input output) (sym is) told

-- so is one by numbers alone
pub record_numbered : (asked : AskedSweep) (supplied : Supplied) (file input output : List ℕ) → (supplied ≡ NamesFile → ⊥)
    → IsNumberedSweep asked asked.best input output → IsRecordSweep asked supplied file input output
record_numbered asked supplied file input output other told = go supplied refl
  where
    go : (s : Supplied) → supplied ≡ s → IsRecordSweep asked s file input output
    go Nothing is = told
    go Record is = told
    go NamesFile is = absurd (other is)
