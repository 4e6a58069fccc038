-- A run has one answer of each command that takes a program or the text of a record.
use Rattle.std.proofs.Common.{◌≡◌, ◌∙◌, ℕ, Bool, true, false, List, [], length, Option, Some, None, inl, inr, ap, refl, subst, sym}
use Rattle.boc_runs.specs.declared.rows.Row.{Row}
use Rattle.boc_runs.specs.Records.{Recorded}
use Rattle.boc_runs.specs.Rows.{IsRows}
use Rattle.boc_record.specs.RecordTexts.{IsTextOf}
use Rattle.boc_record.proofs.OneFault.{one_record}
use Rattle.boc_names.specs.declared.names.Names.{Names}
use Rattle.boc_names.specs.Names.{CallTheSame, Text, texts_of}
use Rattle.boc_names.proofs.OneName.{one_naming_by_file}
use Rattle.boc_plans.specs.Seen.{seen}
use Rattle.boc_plans.specs.declared.sharing.Sharing.{Sharing}
use Rattle.boc_plans.specs.declared.sweep.Sweep.{Sweep}
use Rattle.boc_plans.specs.declared.sweep.Sweep.TheVariants.{Ticks as TicksOf, Cowns, Spawns}
use Rattle.boc_plans.proofs.Seeing.{rows_seen}
use Rattle.boc_words.specs.declared.asked.AskedChanges.{AskedChanges}
use Rattle.boc_words.specs.declared.asked.AskedCurve.{AskedCurve}
use Rattle.boc_words.specs.declared.asked.AskedPlans.{AskedPlans}
use Rattle.boc_words.specs.declared.asked.AskedProfile.{AskedProfile}
use Rattle.boc_words.specs.declared.asked.AskedSweep.{AskedSweep}
use Rattle.boc_words.specs.declared.asked.WhatIfFile.{WhatIfFile}
use Rattle.boc_words.specs.declared.schedule.Schedule.{Schedule}
use Rattle.boc_plan_commands.specs.declared.program_input.Supplied.{Supplied}
use Rattle.boc_plan_commands.specs.declared.program_input.Supplied.TheVariants.{Nothing, Record, Names as NamesFile}
use Rattle.boc_run_commands.specs.Answers.{IsCurveTold, IsReport, first_of}
use Rattle.boc_run_commands.specs.Measured.{AreMeasured}
use Rattle.boc_run_commands.specs.NamedRuns.{IsRecordNumbered}
use Rattle.boc_run_commands.specs.Notes.{AreWanted, TellsProfile, notes_of_rows}
use Rattle.boc_plan_commands.specs.Tells.{TellsProfileOf, TellsProgramProfile}
use Rattle.boc_plan_commands.specs.ProgramInputs.{IsCurveOf, IsProgramCurve, IsProgramRun, supplied_to}
use Rattle.boc_plan_commands.specs.SweepAnswers.{AnswersSweep, AreAllTold, AreBestTold, AreTold, IsNamedSweep, IsNumberedSweep, IsProgramSweep, IsRecordSweep}
use Rattle.boc_plan_commands.specs.SweepAnswers.{IsSwept, are_named, best_text, called_of, lines_text}
use Rattle.boc_plan_commands.specs.WhatIfAnswers.{AnswersWhatIf, IsMeasuredReport, IsProgramWhatIf}
use Rattle.boc_commands.proofs.OneAnswer.{one_best, one_best_answer, one_curve_answer, one_curve_told, one_profile_answer, one_report, one_sweep_answer}
use Rattle.boc_commands.proofs.OneAnswer.{one_swept, one_unswept, rows_are}
use Rattle.boc_commands.proofs.OneChange.{one_measured_report, one_whatif_answer}
use Rattle.boc_commands.proofs.OneMeasured.{are_rows, one_measured}
use Rattle.boc_commands.proofs.OneNaming.{no_run_of_record, one_numbered, one_program_named, program_is_record}

-- ---- rows that are reported on

-- what two answers to a program have that tell of one run: the same names, and the same rows that are reported on
record AreOne (names others : Names) (list other : List Row) : Type 0 where
  called : CallTheSame names others
  rows : IsRows other
  measured : list ≡ other

one_of_program : (typical : Bool) (schedule : Schedule) (supplied : Supplied) (file input : List ℕ) (recorded last : Recorded) (names others : Names)
    (measured other : List Row) → recorded ≡ last → IsProgramRun schedule supplied file input recorded names
    → IsProgramRun schedule supplied file input last others → AreMeasured typical names.defs.items recorded.rows measured
    → AreMeasured typical others.defs.items last.rows other → AreOne names others measured other
one_of_program typical schedule supplied file input recorded last names others measured other same a b x y =
    let called : CallTheSame names others = one_program_named schedule supplied file input last names others
    (subst (λ (r : Recorded). IsProgramRun schedule supplied file input r names) same a) b in
    let hr : IsRows last.rows = rows_are last (program_is_record schedule supplied file input last others b) in
    record {
      called = called;
      rows = are_rows typical others.defs.items last.rows other hr y;
      measured = one_measured typical names.defs.items others.defs.items called.defs last.rows measured other hr
          (subst (λ (r : Recorded). AreMeasured typical names.defs.items r.rows measured) same x) y;
    }

-- ---- curves

pub one_program_curve : (asked : AskedCurve) (supplied : Supplied) (file input output other : List ℕ)
    (one : IsProgramCurve asked supplied file input output) (another : IsProgramCurve asked supplied file input other)
    → one.recorded ≡ another.recorded → output ≡ other
one_program_curve asked supplied file input output other a b same =
    let one = one_of_program asked.typical asked.schedule supplied file input a.recorded b.recorded a.names b.names a.measured b.measured same a.run b.run
    a.measured_are b.measured_are in
    one_curve_told asked.sharing asked.most b.measured one.rows output other
    (subst (λ (rows : List Row). IsCurveTold asked.sharing asked.most rows output) one.measured a.told) b.told

pub one_curve_of_record : (asked : AskedCurve) (supplied : Supplied) (file input output other : List ℕ) (recorded : Recorded) → IsTextOf input recorded
    → IsCurveOf asked supplied file input output → IsCurveOf asked supplied file input other → output ≡ other
one_curve_of_record asked supplied file input output other recorded is (inl a) (inl b) = one_curve_answer asked.sharing asked.most input output other a b
one_curve_of_record asked supplied file input output other recorded is (inl a) (inr b) =
    absurd (no_run_of_record asked.schedule supplied file input recorded b.recorded b.names is b.run)
one_curve_of_record asked supplied file input output other recorded is (inr a) b =
    absurd (no_run_of_record asked.schedule supplied file input recorded a.recorded a.names is a.run)

-- ---- reports, and notes

-- there is one text of notes where it is known which
one_noted : (quiet : Bool) (text notes other : List ℕ) → AreWanted quiet (λ told. told ≡ text) notes → AreWanted quiet (λ told. told ≡ text) other
    → notes ≡ other
one_noted true text notes other a b = a ∙ sym b
one_noted false text notes other a b = a ∙ sym b

pub one_program_profile : (asked : AskedProfile) (supplied : Supplied) (file input notes output others other : List ℕ)
    (one : TellsProgramProfile asked supplied file notes input output) (another : TellsProgramProfile asked supplied file others input other)
    → one.recorded ≡ another.recorded → (notes ≡ others) × (output ≡ other)
one_program_profile asked supplied file input notes output others other a b same =
    let rows : List Row = b.recorded.rows in
    let one = one_of_program asked.typical asked.schedule supplied file input a.recorded b.recorded a.names b.names a.measured b.measured same a.run b.run
    a.measured_are b.measured_are in (
      one_noted asked.quiet (notes_of_rows (texts_of b.names.rows.items) rows) notes others
          (subst (λ (texts : List Text). AreWanted asked.quiet (λ told. told ≡ notes_of_rows texts rows) notes) one.called.rows
          (subst (λ (r : Recorded). AreWanted asked.quiet (λ told. told ≡ notes_of_rows (texts_of a.names.rows.items) r.rows) notes) same a.noted)) b.noted,
      one_report (seen asked.sharing b.measured) (rows_seen asked.sharing b.measured one.rows) asked.plans output other
          (subst (λ (list : List Row). IsReport (seen asked.sharing list) asked.plans output) one.measured a.report) b.report,
    )

one_told_profile : (sharing : Sharing) (plans : AskedPlans) (quiet : Bool) (notes input output others other : List ℕ)
    → TellsProfile sharing plans quiet notes input output → TellsProfile sharing plans quiet others input other → (notes ≡ others) × (output ≡ other)
one_told_profile sharing plans quiet notes input output others other a b =
    let same : a.answer.recorded ≡ b.answer.recorded = one_record input a.answer.recorded b.answer.recorded a.answer.spells b.answer.spells in (
      one_noted quiet (notes_of_rows [] b.answer.recorded.rows) notes others
          (subst (λ (r : Recorded). AreWanted quiet (λ told. told ≡ notes_of_rows [] r.rows) notes) same a.noted) b.noted,
      one_profile_answer sharing plans input output other a.answer b.answer,
    )

pub one_profile_of_record : (asked : AskedProfile) (supplied : Supplied) (file input notes output others other : List ℕ) (recorded : Recorded)
    → IsTextOf input recorded → TellsProfileOf asked supplied file notes input output → TellsProfileOf asked supplied file others input other
    → (notes ≡ others) × (output ≡ other)
one_profile_of_record asked supplied file input notes output others other recorded is (inl a) (inl b) =
    one_told_profile asked.sharing asked.plans asked.quiet notes input output others other a b
one_profile_of_record asked supplied file input notes output others other recorded is (inl a) (inr b) =
    absurd (no_run_of_record asked.schedule supplied file input recorded b.recorded b.names is b.run)
one_profile_of_record asked supplied file input notes output others other recorded is (inr a) b =
    absurd (no_run_of_record asked.schedule supplied file input recorded a.recorded a.names is a.run)

-- ---- sweeps

called_same : (names other : Names) → CallTheSame names other → (over : Sweep) (told : Bool) → called_of names over told ≡ called_of other over told
called_same names other same over false = refl
called_same names other same (TicksOf workers) true = ap (λ (texts : List Text). Some texts) same.rows
called_same names other same (Cowns workers) true = ap (λ (texts : List Text). Some texts) same.cowns
called_same names other same Spawns true = ap (λ (texts : List Text). Some texts) same.rows

one_of_all : (rows : List Row) → IsRows rows → (count : ℕ) (over : Sweep) (called : Option (List Text)) (output other : List ℕ)
    → AreAllTold rows count over called output → AreAllTold rows count over called other → output ≡ other
one_of_all rows hr count over called output other a b =
    a.text ∙ ap (lines_text (first_of over) called) (one_swept rows hr count over a.ends b.ends a.sweep b.sweep) ∙ sym b.text

one_of_best : (rows : List Row) → IsRows rows → (count : ℕ) (over : Sweep) (most : ℕ) (called : Option (List Text)) (output other : List ℕ)
    → AreBestTold rows count over most called output → AreBestTold rows count over most called other → output ≡ other
one_of_best rows hr count over most called output other a b =
    let ends : a.ends ≡ b.ends = one_swept rows hr count over a.ends b.ends a.sweep b.sweep in
    let was : a.was ≡ b.was = one_unswept rows hr over a.was b.was a.was_is b.was_is in
    let best : a.best ≡ b.best = one_best a.ends b.ends ends most a.best b.best a.best_are b.best_are in
    let text : best_text a.was (first_of over) called a.best ≡ best_text b.was (first_of over) called b.best =
    λ i. best_text (was i) (first_of over) called (best i) in
    a.text ∙ text ∙ sym b.text

one_told_sweep : (rows : List Row) → IsRows rows → (count : ℕ) (over : Sweep) (best : Option ℕ) (called : Option (List Text)) (output other : List ℕ)
    → AreTold rows count over best called output → AreTold rows count over best called other → output ≡ other
one_told_sweep rows hr count over None called output other a b = one_of_all rows hr count over called output other a b
one_told_sweep rows hr count over (Some most) called output other a b = one_of_best rows hr count over most called output other a b

-- rows that are called alike have one text of a sweep
one_swept_text : (rows : List Row) → IsRows rows → (names others : Names) → CallTheSame names others → (asked : AskedSweep) (told : Bool)
    (output other : List ℕ) → IsSwept rows names asked told output → IsSwept rows others asked told other → output ≡ other
one_swept_text rows hr names others same asked told output other a b =
    let shown : List Row = seen asked.sharing rows in
    let count : ℕ = length others.families.items in
    one_told_sweep shown (rows_seen asked.sharing rows hr) count asked.over asked.best (called_of others asked.over told) output other
    (subst (λ (called : Option (List Text)). AreTold shown count asked.over asked.best called output) (called_same names others same asked.over told)
    (subst (λ (list : List ℕ). AreTold shown (length list) asked.over asked.best (called_of names asked.over told) output) same.families a)) b

pub one_program_sweep : (asked : AskedSweep) (supplied : Supplied) (file input output other : List ℕ)
    (one : IsProgramSweep asked supplied file input output) (another : IsProgramSweep asked supplied file input other)
    → one.recorded ≡ another.recorded → output ≡ other
one_program_sweep asked supplied file input output other a b same =
    let one = one_of_program asked.typical asked.schedule supplied file input a.recorded b.recorded a.names b.names a.measured b.measured same a.run b.run
    a.measured_are b.measured_are in
    one_swept_text b.measured one.rows a.names b.names one.called asked (are_named asked supplied) output other
    (subst (λ (rows : List Row). IsSwept rows a.names asked (are_named asked supplied) output) one.measured a.told) b.told

one_named_sweep : (asked : AskedSweep) (file input output other : List ℕ) → IsNamedSweep asked file input output → IsNamedSweep asked file input other
    → output ≡ other
one_named_sweep asked file input output other a b =
    let same : a.recorded ≡ b.recorded = one_record input a.recorded b.recorded a.named.named.spells b.named.named.spells in
    let base : CallTheSame a.named.base b.named.base = one_numbered input b.recorded a.named.base b.named.base
    (subst (λ (r : Recorded). IsRecordNumbered input r a.named.base) same a.named.named) b.named.named in
    let called : CallTheSame a.names b.names = one_naming_by_file file a.named.base b.named.base a.names b.names base a.named.renamed b.named.renamed in
    let hr : IsRows b.recorded.rows = rows_are b.recorded b.named.named.spells.record_is in
    let measured : a.measured ≡ b.measured = one_measured asked.typical a.names.defs.items b.names.defs.items called.defs b.recorded.rows a.measured b.measured hr
    (subst (λ (r : Recorded). AreMeasured asked.typical a.names.defs.items r.rows a.measured) same a.measured_are) b.measured_are in
    one_swept_text b.measured (are_rows asked.typical b.names.defs.items b.recorded.rows b.measured hr b.measured_are) a.names b.names called asked true
    output other (subst (λ (rows : List Row). IsSwept rows a.names asked true output) measured a.told) b.told

one_numbered_sweep : (asked : AskedSweep) (best : Option ℕ) (input output other : List ℕ) → IsNumberedSweep asked best input output
    → IsNumberedSweep asked best input other → output ≡ other
one_numbered_sweep asked None input output other a b = one_sweep_answer asked.sharing asked.over input output other a b
one_numbered_sweep asked (Some most) input output other a b = one_best_answer asked.sharing asked.over most input output other a b

one_record_sweep : (asked : AskedSweep) (supplied : Supplied) (file input output other : List ℕ) → IsRecordSweep asked supplied file input output
    → IsRecordSweep asked supplied file input other → output ≡ other
one_record_sweep asked Nothing file input output other a b = one_numbered_sweep asked asked.best input output other a b
one_record_sweep asked Record file input output other a b = one_numbered_sweep asked asked.best input output other a b
one_record_sweep asked NamesFile file input output other a b = one_named_sweep asked file input output other a b

pub one_sweep_of_record : (asked : AskedSweep) (supplied : Supplied) (file input output other : List ℕ) (recorded : Recorded) → IsTextOf input recorded
    → AnswersSweep asked supplied file input output → AnswersSweep asked supplied file input other → output ≡ other
one_sweep_of_record asked supplied file input output other recorded is (inl a) (inl b) = one_record_sweep asked supplied file input output other a b
one_sweep_of_record asked supplied file input output other recorded is (inl a) (inr b) =
    absurd (no_run_of_record asked.schedule supplied file input recorded b.recorded b.names is b.run)
one_sweep_of_record asked supplied file input output other recorded is (inr a) b =
    absurd (no_run_of_record asked.schedule supplied file input recorded a.recorded a.names is a.run)

-- ---- changes

pub one_program_whatif : (schedule : Schedule) (supplied : Supplied) (file : List ℕ) (changes : AskedChanges) (sharing : Sharing)
    (plans : AskedPlans) (short : Bool) (input output other : List ℕ)
    (one : IsProgramWhatIf schedule supplied file changes sharing plans short input output)
    (another : IsProgramWhatIf schedule supplied file changes sharing plans short input other) → one.recorded ≡ another.recorded → output ≡ other
one_program_whatif schedule supplied file changes sharing plans short input output other a b same =
    one_measured_report a.names b.names (one_program_named schedule supplied file input b.recorded a.names b.names
    (subst (λ (r : Recorded). IsProgramRun schedule supplied file input r a.names) same a.run) b.run)
    changes sharing plans short b.recorded.rows
    (rows_are b.recorded (program_is_record schedule supplied file input b.recorded b.names b.run)) output other
    (subst (λ (r : Recorded). IsMeasuredReport a.names changes sharing plans short r.rows output) same a.report) b.report

pub one_whatif_of_record : (schedule : Schedule) (file : Option WhatIfFile) (bytes : List ℕ) (changes : AskedChanges)
    (sharing : Sharing) (plans : AskedPlans) (short : Bool) (input output other : List ℕ) (recorded : Recorded) → IsTextOf input recorded
    → AnswersWhatIf schedule file bytes changes sharing plans short input output
    → AnswersWhatIf schedule file bytes changes sharing plans short input other → output ≡ other
one_whatif_of_record schedule file bytes changes sharing plans short input output other recorded is (inl a) (inl b) =
    one_whatif_answer file bytes changes sharing plans short input output other a b
one_whatif_of_record schedule file bytes changes sharing plans short input output other recorded is (inl a) (inr b) =
    absurd (no_run_of_record schedule (supplied_to file) bytes input recorded b.recorded b.names is b.run)
one_whatif_of_record schedule file bytes changes sharing plans short input output other recorded is (inr a) b =
    absurd (no_run_of_record schedule (supplied_to file) bytes input recorded a.recorded a.names is a.run)
