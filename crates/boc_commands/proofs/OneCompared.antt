-- Of two runs there is one answer of `compare`, with one text of notes.
use Rattle.std.proofs.Common.{◌≡◌, ◌∙◌, ℕ, suc, Bool, true, false, List, [], ◌∷◌, length, map, Option, Some, None, inl, inr, ap, refl, subst, sym}
use Rattle.std.proofs.lemmas.List.{length-map}
use Rattle.boc_runs.specs.declared.rows.Row.{Row}
use Rattle.boc_runs.specs.Records.{Recorded}
use Rattle.boc_runs.specs.Rows.{IsRows}
use Rattle.boc_record.specs.RecordTexts.{IsTextOf}
use Rattle.boc_names.specs.declared.names.Names.{Names}
use Rattle.boc_names.specs.Names.{CallTheSame, Text, text_at, texts_of}
use Rattle.boc_names.specs.NamesFile.{Call, IsNamedBy, laid, names_at, row_calls}
use Rattle.boc_words.specs.declared.asked.AskedCompare.{AskedCompare}
use Rattle.boc_words.specs.declared.asked.CompareFiles.{CompareFiles}
use Rattle.boc_words.specs.declared.asked.RunFile.{RunFile}
use Rattle.boc_words.specs.declared.asked.RunFile.TheVariants as run_files
use Rattle.boc_words.specs.declared.schedule.Schedule.{Schedule}
use Rattle.boc_run_commands.specs.Measured.{AreMeasured}
use Rattle.boc_run_commands.specs.NamedRuns.{IsNamedRun, IsOwnRun}
use Rattle.boc_run_commands.proofs.RunNames.{named_few, numbers_counted}
use Rattle.boc_several_commands.specs.declared.compare.Pair.{Pair}
use Rattle.boc_several_commands.specs.declared.side.Sided.{Sided}
use Rattle.boc_several_commands.specs.Comparing.{IsSided, TellsCompare}
use Rattle.boc_several_commands.proofs.OneSided.{AreAlike, one_compared, one_sided}
use Rattle.boc_commands.proofs.OneAnswer.{rows_are}
use Rattle.boc_commands.proofs.OneMeasured.{are_rows, one_measured}
use Rattle.boc_commands.proofs.OneNaming.{one_named_run, run_is_record, same_record}

-- ---- each row has a def

-- as much is known where a file says something of it
laid_length : {A : Type 0} (says : Call → A) (calls : List Call) (number : ℕ) (known : List A) → length (laid says calls number known) ≡ length known
laid_length says calls number [] = refl
laid_length says calls number (x ∷ known) = ap suc (laid_length says calls (suc number) known)

laid_defs : (text : List ℕ) (base names : Names) → IsNamedBy text base names → length names.defs.items ≡ length base.defs.items
laid_defs text base names is =
    sym (length-map names.defs.items (text_at (texts_of names.def_names.items)))
    ∙ ap (λ (groups : List Text). length groups) (sym is.laid_over.defs.called)
    ∙ laid_length (λ call. call.group) (row_calls is.lines) 0 (names_at (texts_of base.def_names.items) base.defs.items)
    ∙ length-map base.defs.items (text_at (texts_of base.def_names.items))

own_defs : (schedule : Schedule) (input : List ℕ) (recorded : Recorded) (names : Names) → IsOwnRun schedule input recorded names
    → length names.defs.items ≡ length recorded.rows
own_defs schedule input recorded names (inl a) =
    let run = a.named.run in
    (named_few a.named.program recorded (map (λ d. d.name) a.named.defs) names run.run run.whole (rows_are recorded run.whole) a.named.names_are).defs
own_defs schedule input recorded names (inr a) = (numbers_counted (length recorded.rows) recorded.cowns names a.names_are).2

run_defs : (schedule : Schedule) (file : Option RunFile) (bytes input : List ℕ) (recorded : Recorded) (names : Names)
    → IsNamedRun schedule file bytes input recorded names → length names.defs.items ≡ length recorded.rows
run_defs schedule None bytes input recorded names a = own_defs schedule input recorded names a
run_defs schedule (Some (run_files.Record path)) bytes input recorded names a =
    let whole = a.text_of.record_is in
    (named_few a.program recorded (map (λ d. d.name) a.defs) names a.run whole (rows_are recorded whole) a.names_are).defs
run_defs schedule (Some (run_files.Names path)) bytes input recorded names a =
    laid_defs bytes a.base names a.renamed ∙ own_defs schedule input recorded a.base a.named

measured_defs : (typical : Bool) (defs : List ℕ) (rows measured : List Row) → length defs ≡ length rows → AreMeasured typical defs rows measured
    → length defs ≡ length measured
measured_defs false defs rows measured many same = many ∙ ap (λ (list : List Row). length list) (sym same)
measured_defs true defs rows measured many is = many ∙ sym is.1.whole

-- ---- the answers

-- of one run the same is known
alike : (asked : AskedCompare) (file : Option RunFile) (bytes text : List ℕ) (sided other : Sided) (a : IsSided asked file bytes text sided)
    (b : IsSided asked file bytes text other) → a.recorded ≡ b.recorded → AreAlike sided other
alike asked file bytes text sided other a b same =
    let rows : List Row = b.recorded.rows in
    let named : IsNamedRun asked.schedule file bytes text b.recorded sided.names =
    subst (λ (r : Recorded). IsNamedRun asked.schedule file bytes text r sided.names) same a.run in
    let called : CallTheSame sided.names other.names = one_named_run asked.schedule file bytes text b.recorded sided.names other.names named b.run in
    let hr : IsRows rows = rows_are b.recorded (run_is_record asked.schedule file bytes text b.recorded other.names b.run) in
    let measured : a.measured ≡ b.measured =
    one_measured asked.typical sided.names.defs.items other.names.defs.items called.defs rows a.measured b.measured hr
    (subst (λ (r : Recorded). AreMeasured asked.typical sided.names.defs.items r.rows a.measured) same a.measured_are) b.measured_are in
    one_sided asked file bytes text sided other a b called same measured
    (are_rows asked.typical other.names.defs.items rows b.measured hr b.measured_are)
    (measured_defs asked.typical other.names.defs.items rows b.measured
    (run_defs asked.schedule file bytes text b.recorded other.names b.run) b.measured_are)

pub one_compare_answer : (asked : AskedCompare) (files : CompareFiles) (pair : Pair) (input notes output others other : List ℕ)
    (one : TellsCompare asked files pair notes input output) (another : TellsCompare asked files pair others input other)
    → one.before_is.recorded ≡ another.before_is.recorded → one.after_is.recorded ≡ another.after_is.recorded → (notes ≡ others) × (output ≡ other)
one_compare_answer asked files pair input notes output others other one another was is =
    one_compared asked files pair input notes output others other one another
    (alike asked files.before_names pair.before_names.items input one.before another.before one.before_is another.before_is was)
    (alike asked files.after_names pair.after_names.items pair.after.items one.after another.after one.after_is another.after_is is)

-- where both inputs are texts of records, these are their runs
pub one_compare_of_records : (asked : AskedCompare) (files : CompareFiles) (pair : Pair) (input notes output others other : List ℕ) (before after : Recorded)
    → IsTextOf input before → IsTextOf pair.after.items after → TellsCompare asked files pair notes input output
    → TellsCompare asked files pair others input other → (notes ≡ others) × (output ≡ other)
one_compare_of_records asked files pair input notes output others other before after was is one another =
    one_compare_answer asked files pair input notes output others other one another
    (same_record asked.schedule files.before_names pair.before_names.items input before was one.before_is.recorded another.before_is.recorded one.before.names
    another.before.names one.before_is.run another.before_is.run)
    (same_record asked.schedule files.after_names pair.after_names.items pair.after.items after is one.after_is.recorded another.after_is.recorded
    one.after.names another.after.names one.after_is.run another.after_is.run)
