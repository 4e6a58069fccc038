-- Of one run there is one answer of `why` and one of `cowns`, with one text of notes.
use Rattle.std.proofs.Common.{◌≡◌, ◌∙◌, ℕ, Bool, true, false, List, ◌++◌, length, Option, Some, None, subst, sym}
use Rattle.std.specs.Prelude.{option_map}
use Rattle.boc_runs.specs.declared.rows.Row.{Row}
use Rattle.boc_runs.specs.Records.{Recorded}
use Rattle.boc_runs.specs.Rows.{IsRows}
use Rattle.boc_plans.specs.declared.sharing.Sharing.{Sharing}
use Rattle.boc_plans.specs.Seen.{seen}
use Rattle.boc_plans.proofs.Seeing.{rows_seen}
use Rattle.boc_greedy.proofs.Curving.{one_greedy_cown_sweep, one_greedy_end}
use Rattle.boc_names.specs.declared.names.Names.{Names}
use Rattle.boc_names.specs.Names.{CallTheSame, texts_of}
use Rattle.boc_why_report.specs.declared.told.TimedEnd.{TimedEnd}
use Rattle.boc_remedies.specs.Questions.{Asked}
use Rattle.boc_remedies.specs.Together.{AreCownsTogether}
use Rattle.boc_remedies.proofs.OneAdvised.{one_advised}
use Rattle.boc_remedies.proofs.OneEnds.{one_ends as one_ends_now}
use Rattle.boc_remedies.proofs.OneSteps.{one_steps}
use Rattle.boc_remedies.proofs.OneTogether.{one_table}
use Rattle.boc_advice_report.proofs.OneText.{one_steps_text, one_why_text}
use Rattle.boc_cowns.specs.declared.hot.HotCowns.{HotCowns}
use Rattle.boc_cowns.proofs.One.{cowns_same, least_same, shared_same, span_same}
use Rattle.boc_cowns_report.specs.declared.told.CownsTold.{CownsTold}
use Rattle.boc_cowns_report.specs.declared.told.JudgedTold.{JudgedTold}
use Rattle.boc_cowns_report.specs.Judged.{judged_cowns}
use Rattle.boc_cowns_report.specs.Same.{JudgeTheSame, TellTheSame}
use Rattle.boc_cowns_report.proofs.OneText.{one_text as one_cowns_text}
use Rattle.boc_words.specs.declared.asked.AskedCowns.{AskedCowns}
use Rattle.boc_words.specs.declared.asked.AskedWhy.{AskedWhy}
use Rattle.boc_words.specs.declared.asked.RunFile.{RunFile}
use Rattle.boc_plan_commands.specs.CownsAnswers.{AreJudged, AreJudgedFor, AreTold, AreToldBy}
use Rattle.boc_run_commands.specs.NamedRuns.{HasTimes, IsNamedRun}
use Rattle.boc_run_commands.specs.Notes.{AreWanted, notes_of_rows}
use Rattle.boc_plan_commands.specs.Tells.{TellsCowns, TellsWhy}
use Rattle.boc_plan_commands.specs.LongNotes.{ArePlanNotes}
use Rattle.boc_plan_commands.specs.OrderAnswers.{IsOtherOrder}
use Rattle.boc_run_commands.specs.Measured.{AreMeasured, times_measured, workers_measured}
use Rattle.boc_run_commands.specs.TimedNotes.{workers_compared}
use Rattle.boc_commands.proofs.OneMeasured.{are_rows, ends_measured, one_measured}
use Rattle.boc_busy.specs.declared.timed.TimedRows.{TimedRows}
use Rattle.boc_run_commands.specs.TimedAnswers.{end_of_times}
use Rattle.boc_plan_commands.specs.WhyAnswers.{AreStepsTold, IsTold, IsToldOf, IsWhyTold, advised_of, asked_of}
use Rattle.boc_commands.proofs.OneLong.{one_long_note}
use Rattle.boc_commands.proofs.OneNote.{one_note}
use Rattle.boc_commands.proofs.OneOrder.{one_order}
use Rattle.boc_commands.proofs.OneTimes.{one_ends}
use Rattle.boc_commands.proofs.OneAnswer.{rows_are}
use Rattle.boc_commands.proofs.OneNaming.{one_named_run, run_is_record}

-- ---- what is asked

-- in names that call everything the same the same is asked
asked_same : (rows : List Row) (names others : Names) → CallTheSame names others → (sharing : Sharing) (workers : Option ℕ)
    → asked_of rows names sharing workers ≡ asked_of rows others sharing workers
asked_same rows names others same sharing workers = λ i. record {
  rows = rows;
  defs = same.defs i;
  families = same.families i;
  sharing = sharing;
  workers = workers;
}

-- ---- why

one_why_told : (question : Asked) → IsRows question.rows → (names others : Names) → CallTheSame names others → (all : Bool) (timed at : Option TimedEnd)
    → timed ≡ at → (text other : List ℕ) → IsWhyTold question names all timed text → IsWhyTold question others all at other → text ≡ other
one_why_told question hr names others same all timed at ends text other a b =
    let rows : List Row = seen question.sharing question.rows in
    let found = one_advised question (advised_of a.told) (advised_of b.told) hr a.is.is_advised b.is.is_advised in
    let order : a.told.order ≡ b.told.order =
    one_order rows (rows_seen question.sharing question.rows hr) b.told.why.now.profile.span a.told.order b.told.order
    (subst (λ (span : ℕ). IsOtherOrder rows span a.told.order) found.why.span a.is.is_order) b.is.is_order in
    one_why_text names others same question.sharing all a.told b.told (record {
      why = found.why;
      greedy = found.greedy;
      advice = record { now = found.now; candidates = found.candidates; together = found.together };
      order = order;
      timed = a.is.timed_is ∙ ends ∙ sym b.is.timed_is;
    }) text other a.text_is b.text_is

one_steps_told : (question : Asked) → IsRows question.rows → (names others : Names) → CallTheSame names others → (most : ℕ) (text other : List ℕ)
    → AreStepsTold question names most text → AreStepsTold question others most other → text ≡ other
one_steps_told question hr names others same most text other a b =
    let now : a.told.now ≡ b.told.now =
    one_ends_now (seen question.sharing question.rows) (rows_seen question.sharing question.rows hr) question.workers a.told.now b.told.now a.are.now b.are.now in
    one_steps_text names others same a.told b.told text other (record {
      rows = a.are.rows ∙ sym b.are.rows;
      work = a.are.work ∙ sym b.are.work;
      now = now;
      workers = a.are.workers ∙ sym b.are.workers;
      most = a.are.most_are ∙ sym b.are.most_are;
      steps = one_steps question most a.told.steps.now b.told.steps.now hr a.are.steps b.are.steps;
    }) a.text_is b.text_is

one_told_of : (question : Asked) → IsRows question.rows → (names others : Names) → CallTheSame names others → (all : Bool) (then : Option ℕ)
    (timed at : Option TimedEnd) → timed ≡ at → (text other : List ℕ) → IsToldOf question names all then timed text → IsToldOf question others all then at other
    → text ≡ other
one_told_of question hr names others same all None timed at ends text other a b = one_why_told question hr names others same all timed at ends text other a b
one_told_of question hr names others same all (Some most) timed at ends text other a b = one_steps_told question hr names others same most text other a b

one_told : (rows : List Row) → IsRows rows → (names others : Names) → CallTheSame names others → (asked : AskedWhy) (times at : Option TimedRows)
    → option_map end_of_times times ≡ option_map end_of_times at → (text other : List ℕ) → IsTold rows names asked times text
    → IsTold rows others asked at other → text ≡ other
one_told rows hr names others same asked times at ends text other a b =
    one_told_of (asked_of rows others asked.sharing asked.workers) hr names others same asked.all asked.then (option_map end_of_times times)
    (option_map end_of_times at) ends text other
    (subst (λ (question : Asked). IsToldOf question names asked.all asked.then (option_map end_of_times times) text)
    (asked_same rows names others same asked.sharing asked.workers) a.told) b.told

-- ---- cowns

-- for so many workers the same cowns are judged in one way
judged_same : (question : Asked) → IsRows question.rows → (p : ℕ) (hot other : HotCowns) → hot.span ≡ other.span → hot.cowns.items ≡ other.cowns.items
    → (judged also : JudgedTold) → AreJudged question p hot judged.workers judged.cowns.now → AreJudged question p other also.workers also.cowns.now
    → (judged.workers ≡ also.workers) × (judged.cowns.now ≡ also.cowns.now)
judged_same question hr p hot other span cowns judged also a b =
    let rows : List Row = seen question.sharing question.rows in
    let shape : IsRows rows = rows_seen question.sharing question.rows hr in
    let many : judged.workers.p ≡ also.workers.p = a.many ∙ sym b.many in
    let work : judged.workers.work ≡ also.workers.work = a.work ∙ sym b.work in
    let whole : judged.workers.span ≡ also.workers.span = a.span ∙ span ∙ sym b.span in
    let end : judged.workers.end ≡ also.workers.end = one_greedy_end rows shape p judged.workers.end also.workers.end a.end b.end in
    let workers : judged.workers ≡ also.workers = λ i. record { p = many i; work = work i; span = whole i; end = end i } in
    let ends : a.ends ≡ b.ends = one_greedy_cown_sweep rows shape p (length question.families) a.ends b.ends a.ends_are b.ends_are in
    let list : judged_cowns a.ends hot.cowns.items ≡ judged_cowns b.ends other.cowns.items = λ i. judged_cowns (ends i) (cowns i) in
    (workers, a.cowns_are ∙ list ∙ sym b.cowns_are)

judged_for_same : (question : Asked) → IsRows question.rows → (hot other : HotCowns) → hot.span ≡ other.span → hot.cowns.items ≡ other.cowns.items
    → (workers : Option ℕ) (judged also : Option JudgedTold) → AreJudgedFor question hot workers judged → AreJudgedFor question other workers also
    → JudgeTheSame judged also
judged_for_same question hr hot other span cowns None judged also a b =
    subst (λ (list : Option JudgedTold). JudgeTheSame list also) (sym a) (subst (λ (list : Option JudgedTold). JudgeTheSame None list) (sym b) tt)
judged_for_same question hr hot other span cowns (Some p) None also a b = absurd a
judged_for_same question hr hot other span cowns (Some p) (Some judged) None a b = absurd b
judged_for_same question hr hot other span cowns (Some p) (Some judged) (Some also) a b = judged_same question hr p hot other span cowns judged also a b

-- two reports that tell of the same rows as they must tell the same
told_same : (question : Asked) → IsRows question.rows → (told other : CownsTold) → AreToldBy question told → AreToldBy question other → TellTheSame told other
told_same question hr told other a b =
    let rows : List Row = seen question.sharing question.rows in
    let count : ℕ = length question.families in
    let hot : HotCowns = told.hot.now in
    let also : HotCowns = other.hot.now in
    let span : hot.span ≡ also.span = span_same question.rows hr question.sharing count hot also a.is_hot b.is_hot in
    let cowns : hot.cowns.items ≡ also.cowns.items = cowns_same question.rows hr question.sharing count hot also a.is_hot b.is_hot in
    record {
      span = span;
      least = least_same question.rows hr question.sharing count hot also a.is_hot b.is_hot;
      shared = shared_same question.rows hr question.sharing count hot also a.is_hot b.is_hot;
      cowns = cowns;
      judged = judged_for_same question hr hot also span cowns question.workers told.judged other.judged a.judged b.judged;
      together = one_table question also.span told.together.now other.together.now
          (subst (λ (tick : ℕ). AreCownsTogether question tick told.together.now) span a.together) b.together;
      order = one_order rows (rows_seen question.sharing question.rows hr) also.span told.order other.order
          (subst (λ (tick : ℕ). IsOtherOrder rows tick told.order) span a.order) b.order;
    }

told_of_cowns : (rows : List Row) → IsRows rows → (names others : Names) → CallTheSame names others → (asked : AskedCowns)
    (text other : List ℕ) → AreTold rows names asked text → AreTold rows others asked other → text ≡ other
told_of_cowns rows hr names others same asked text other a b =
    let question : Asked = asked_of rows others asked.sharing asked.workers in
    let are : AreToldBy question a.told =
    subst (λ (q : Asked). AreToldBy q a.told) (asked_same rows names others same asked.sharing asked.workers) a.are in
    one_cowns_text names others same a.told b.told (told_same question hr a.told b.told are b.are) asked.sharing asked.top text other a.text_is b.text_is

-- ---- notes

one_text_of_why : (sharing : Sharing) (compared : Option ℕ) (typical : Bool) (input : List ℕ) (quiet : Bool) (rows : List Row) (names others : Names)
    → CallTheSame names others → (notes other : List ℕ) → AreWanted quiet (ArePlanNotes sharing compared typical input names rows) notes
    → AreWanted quiet (ArePlanNotes sharing compared typical input others rows) other → notes ≡ other
one_text_of_why sharing compared typical input true rows names others same notes other a b = a ∙ sym b
one_text_of_why sharing compared typical input false rows names others same notes other a b =
    let x = a.before_are in
    let y = b.before_are in
    let note : x.other ≡ y.other = one_note input compared sharing rows x.other y.other x.other_is y.other_is in
    let said : notes_of_rows (texts_of names.rows.items) rows ++ x.other ≡ notes_of_rows (texts_of others.rows.items) rows ++ y.other =
    λ i. notes_of_rows (same.rows i) rows ++ note i in
    let before : a.before ≡ b.before = x.notes_are ∙ said ∙ sym y.notes_are in
    let long : a.long ≡ b.long = one_long_note typical input rows names.defs.items others.defs.items same.defs a.long b.long a.long_is b.long_is in
    let text : a.before ++ a.long ≡ b.before ++ b.long = λ i. before i ++ long i in
    a.notes_are ∙ text ∙ sym b.notes_are

-- ---- the answers

pub one_why_answer : (asked : AskedWhy) (file : Option RunFile) (bytes input notes output others other : List ℕ)
    (one : TellsWhy asked file bytes notes input output) (another : TellsWhy asked file bytes others input other)
    → one.answer.recorded ≡ another.answer.recorded → (notes ≡ others) × (output ≡ other)
one_why_answer asked file bytes input notes output others other one another same =
    let compared : Option ℕ = workers_compared asked.schedule (workers_measured asked.typical asked.workers) file in
    let a = one.answer in
    let b = another.answer in
    let named : IsNamedRun asked.schedule file bytes input b.recorded a.names =
    subst (λ (r : Recorded). IsNamedRun asked.schedule file bytes input r a.names) same a.named in
    let called : CallTheSame a.names b.names = one_named_run asked.schedule file bytes input b.recorded a.names b.names named b.named in
    let hr : IsRows b.recorded.rows = rows_are b.recorded (run_is_record asked.schedule file bytes input b.recorded b.names b.named) in
    let measured : a.measured ≡ b.measured = one_measured asked.typical a.names.defs.items b.names.defs.items called.defs b.recorded.rows a.measured b.measured hr
    (subst (λ (r : Recorded). AreMeasured asked.typical a.names.defs.items r.rows a.measured) same a.measured_are) b.measured_are in (
      one_text_of_why asked.sharing compared asked.typical input asked.quiet b.recorded.rows a.names b.names called notes others
          (subst (λ (r : Recorded). AreWanted asked.quiet (ArePlanNotes asked.sharing compared asked.typical input a.names r.rows) notes) same one.noted)
          another.noted,
      one_told b.measured (are_rows asked.typical b.names.defs.items b.recorded.rows b.measured hr b.measured_are) a.names b.names called asked
          (times_measured asked.typical a.times) (times_measured asked.typical b.times)
          (ends_measured asked.typical a.times b.times (one_ends asked.schedule file input b.recorded.rows a.times b.times
          (subst (λ (r : Recorded). HasTimes asked.schedule file input r.rows a.times) same a.times_are) b.times_are))
          output other (subst (λ (rows : List Row). IsTold rows a.names asked (times_measured asked.typical a.times) output) measured a.told) b.told,
    )

pub one_cowns_answer : (asked : AskedCowns) (file : Option RunFile) (bytes input notes output others other : List ℕ)
    (one : TellsCowns asked file bytes notes input output) (another : TellsCowns asked file bytes others input other)
    → one.answer.recorded ≡ another.answer.recorded → (notes ≡ others) × (output ≡ other)
one_cowns_answer asked file bytes input notes output others other one another same =
    let compared : Option ℕ = workers_compared asked.schedule (workers_measured asked.typical asked.workers) file in
    let a = one.answer in
    let b = another.answer in
    let named : IsNamedRun asked.schedule file bytes input b.recorded a.names =
    subst (λ (r : Recorded). IsNamedRun asked.schedule file bytes input r a.names) same a.named in
    let called : CallTheSame a.names b.names = one_named_run asked.schedule file bytes input b.recorded a.names b.names named b.named in
    let hr : IsRows b.recorded.rows = rows_are b.recorded (run_is_record asked.schedule file bytes input b.recorded b.names b.named) in
    let measured : a.measured ≡ b.measured = one_measured asked.typical a.names.defs.items b.names.defs.items called.defs b.recorded.rows a.measured b.measured hr
    (subst (λ (r : Recorded). AreMeasured asked.typical a.names.defs.items r.rows a.measured) same a.measured_are) b.measured_are in (
      one_text_of_why asked.sharing compared asked.typical input asked.quiet b.recorded.rows a.names b.names called notes others
          (subst (λ (r : Recorded). AreWanted asked.quiet (ArePlanNotes asked.sharing compared asked.typical input a.names r.rows) notes) same one.noted)
          another.noted,
      told_of_cowns b.measured (are_rows asked.typical b.names.defs.items b.recorded.rows b.measured hr b.measured_are) a.names b.names called asked output other
          (subst (λ (rows : List Row). AreTold rows a.names asked output) measured a.told) b.told,
    )
