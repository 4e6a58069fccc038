-- What is supposed of a record has one answer.
use Rattle.std.proofs.Common.{◌≡◌, ◌∙◌, ◌||◌, ℕ, Bool, true, false, List, [], ◌∷◌, ◌++◌, length, map, Option, Some, None, String, Vec, ap, ap₂, refl}
use Rattle.std.proofs.Common.{subst, sym}
use Rattle.std.specs.Prelude.{cond, filter, nat_lt, slice_index, string_bytes}
use Rattle.std.specs.Global.{Global}
use Rattle.std.specs.Int.{from_bool}
use Rattle.std.specs.List.{range_with_len}
use Rattle.std.specs.Str.{bytes_eq}
use Rattle.std.proofs.lemmas.List.{length-map}
use Rattle.boc_runs.specs.declared.rows.Row.{Row}
use Rattle.boc_runs.specs.Changes.{without}
use Rattle.boc_runs.specs.Records.{Recorded}
use Rattle.boc_runs.specs.Rows.{IsRows}
use Rattle.boc_runs.proofs.Freeing.{rows_without}
use Rattle.boc_record.specs.RecordTexts.{IsTextOf}
use Rattle.boc_record.proofs.OneFault.{one_record}
use Rattle.boc_plans.specs.declared.chain.ChainStep.{ChainStep}
use Rattle.boc_plans.specs.declared.edit.Edit.{Edit}
use Rattle.boc_plans.specs.declared.sharing.Sharing.{Sharing}
use Rattle.boc_plans.specs.Chains.{IsPicked}
use Rattle.boc_plans.specs.Edits.{AreEdited}
use Rattle.boc_plans.specs.Seen.{seen}
use Rattle.boc_plans.proofs.Seeing.{rows_seen}
use Rattle.boc_order.proofs.Alone.{one_chain, one_plan, one_span}
use Rattle.boc_greedy.proofs.Curving.{one_greedy_end}
use Rattle.boc_whatif.proofs.Changing.{changed_rows}
use Rattle.boc_names.specs.declared.names.Names.{Names}
use Rattle.boc_names.specs.Names.{CallTheSame, Text, text_at, texts_of}
use Rattle.boc_why.specs.Causes.{AreSpawnedEarly, without_all}
use Rattle.boc_why.specs.WhySteps.{AreSharesByDef}
use Rattle.boc_why.proofs.EarlySpawns.{one_early}
use Rattle.boc_why.proofs.OneCause.{one_edited}
use Rattle.boc_why.proofs.OneWhy.{one_list_by_def}
use Rattle.boc_why_report.specs.declared.short.Outcome.{Outcome}
use Rattle.boc_why_report.specs.ShortTexts.{ComeToTheSame}
use Rattle.boc_why_report.proofs.OneText.{one_short_text}
use Rattle.boc_words.specs.declared.asked.AskedChanges.{AskedChanges}
use Rattle.boc_words.specs.declared.asked.AskedCown.{AskedCown}
use Rattle.boc_words.specs.declared.asked.AskedCown.TheVariants as asked_cowns
use Rattle.boc_words.specs.declared.asked.AskedEdit.{AskedEdit}
use Rattle.boc_words.specs.declared.asked.AskedEdit.TheVariants as asked_edits
use Rattle.boc_words.specs.declared.asked.WhatIfFile.{WhatIfFile}
use Rattle.boc_plan_commands.specs.Asked.{AreMadeEarly, all_cowns, all_edits, costs, cowns_of, edits_of, first_some, marks_of, named, starred}
use Rattle.boc_words.specs.declared.asked.AskedPlans.{AskedPlans}
use Rattle.boc_run_commands.specs.NamedRuns.{IsNamedRecord}
use Rattle.boc_plan_commands.specs.WhatIfAnswers.{AreChangedSo, IsAskedEnd, IsOutcome, IsReportAfter, IsShortReport, IsWhatIfAnswer, IsWhatIfReport}
use Rattle.boc_plan_commands.specs.WhatIfAnswers.{IsMeasuredReport}
use Rattle.boc_commands.proofs.OneMeasured.{are_rows, one_measured}
use Rattle.boc_plan_commands.proofs.EarlyRows.{rows_early}
use Rattle.boc_commands.proofs.OneAnswer.{one_report, rows_are}
use Rattle.boc_commands.proofs.OneNaming.{is_text_of, one_named_record}

-- ---- what is asked for

as_many : (names others : List (Vec ℕ Global)) → texts_of names ≡ texts_of others → length names ≡ length others
as_many names others same = sym (length-map names (λ (t : Vec ℕ Global). t.items)) ∙ ap (λ (texts : List Text). length texts) same
    ∙ length-map others (λ (t : Vec ℕ Global). t.items)

module _ (a b : Names) (same : CallTheSame a b) where
  count_is : length a.cowns.items ≡ length b.cowns.items
  count_is = as_many a.cowns.items b.cowns.items same.cowns

  all_named : (name : Text) → named a name ≡ named b name
  all_named name = λ i. filter (λ cown. bytes_eq (text_at (same.cowns i) cown) name
      || bytes_eq (text_at (same.family_names i) (slice_index (same.families i) cown)) name) (range_with_len 0 (count_is i))

  cowns_meant : (asked : AskedCown) → cowns_of a asked ≡ cowns_of b asked
  cowns_meant (asked_cowns.Number number) = λ i. cond (nat_lt number (count_is i)) (number ∷ []) []
  cowns_meant (asked_cowns.Name name) = ap₂ first_some (all_named (string_bytes name)) (all_named (starred (string_bytes name)))

  same_cowns : (asked : List AskedCown) → all_cowns a asked ≡ all_cowns b asked
  same_cowns [] = refl
  same_cowns (x ∷ asked) = ap₂ ◌++◌ (cowns_meant x) (same_cowns asked)

  same_marks : (name : Text) → marks_of a name ≡ marks_of b name
  same_marks name = λ i. map (λ row. from_bool (bytes_eq (text_at (same.def_names i) (slice_index (same.defs i) row)) name))
      (range_with_len 0 (length (same.defs i)))

  edits_meant : (asked : AskedEdit) → edits_of a asked ≡ edits_of b asked
  edits_meant (asked_edits.Row edit) = refl
  edits_meant (asked_edits.Def name part) = λ i. map (costs part) (filter (λ row. bytes_eq (text_at (same.def_names i) (slice_index (same.defs i) row))
      (string_bytes name)) (range_with_len 0 (length (same.defs i))))

  same_edits : (asked : List AskedEdit) → all_edits a asked ≡ all_edits b asked
  same_edits [] = refl
  same_edits (x ∷ asked) = ap₂ ◌++◌ (edits_meant x) (same_edits asked)

-- ---- the rows after it

-- rows after edits that fit are rows
rows_after : (rows : List Row) → IsRows rows → (edits : List Edit) (after : List Row) → AreEdited rows edits after → IsRows after
rows_after rows hr [] after made = rw made hr
rows_after rows hr (edit ∷ edits) after made =
    rows_after made.0 (changed_rows rows hr edit.row edit.change made.0 made.1) edits after made.2

-- and so are rows without some cowns
rows_left : (cowns : List ℕ) (rows : List Row) → IsRows rows → IsRows (without_all cowns rows)
rows_left [] rows hr = hr
rows_left (cown ∷ cowns) rows hr = rows_left cowns (without cown rows) (rows_without cown rows hr)

-- rows of which those of some defs spawn early are one list
one_made : (names others : Names) → CallTheSame names others → (rows : List Row) (defs : List (String Global)) (after other : List Row)
    → AreMadeEarly names rows defs after → AreMadeEarly others rows defs other → after ≡ other
one_made names others same rows [] after other a b = a ∙ sym b
one_made names others same rows (def ∷ defs) after other a b =
    let marks : List ℕ = marks_of others (string_bytes def) in
    let next : a.0 ≡ b.0 = one_early rows marks 1 a.0 b.0
    (subst (λ (list : List ℕ). AreSpawnedEarly rows list 1 a.0) (same_marks names others same (string_bytes def)) a.1) b.1 in
    one_made names others same b.0 defs after other (subst (λ (list : List Row). AreMadeEarly names list defs after) next a.2) b.2

-- and are rows
rows_made : (names : Names) (rows : List Row) → IsRows rows → (defs : List (String Global)) (after : List Row) → AreMadeEarly names rows defs after
    → IsRows after
rows_made names rows hr [] after made = rw made hr
rows_made names rows hr (def ∷ defs) after made =
    rows_made names made.0 (rows_early rows (marks_of names (string_bytes def)) 1 made.0 made.1 hr) defs after made.2

module _ (rows : List Row) (names others : Names) (same : CallTheSame names others) (changes : AskedChanges)
    (after other : List Row) (a : AreChangedSo names changes rows after) (b : AreChangedSo others changes rows other) where
  abbrev left : List Row
  left = without_all (all_cowns others changes.cowns.items) rows

  one_spawned : a.spawned ≡ b.spawned
  one_spawned = one_made names others same left changes.early.items a.spawned b.spawned
      (subst (λ (list : List ℕ). AreMadeEarly names (without_all list rows) changes.early.items a.spawned)
      (same_cowns names others same changes.cowns.items) a.early.made)
      b.early.made

  one_change : after ≡ other
  one_change = one_edited b.spawned (all_edits others changes.edits.items) after other
      (subst (λ (list : List Edit). AreEdited b.spawned list after) (same_edits names others same changes.edits.items)
      (subst (λ (list : List Row). AreEdited list (all_edits names changes.edits.items) after) one_spawned a.asked_for.edited))
      b.asked_for.edited

  rows_changed : IsRows rows → IsRows other
  rows_changed hr = rows_after b.spawned
      (rows_made others left (rows_left (all_cowns others changes.cowns.items) rows hr) changes.early.items b.spawned b.early.made)
      (all_edits others changes.edits.items) other b.asked_for.edited

-- ---- what is told of them

one_asked_end : (rows : List Row) → IsRows rows → (workers end other : Option ℕ) → IsAskedEnd rows workers end → IsAskedEnd rows workers other → end ≡ other
one_asked_end rows hr None None None a b = refl
one_asked_end rows hr None None (Some y) a b = absurd b
one_asked_end rows hr None (Some x) other a b = absurd a
one_asked_end rows hr (Some p) None other a b = absurd a
one_asked_end rows hr (Some p) (Some x) None a b = absurd b
one_asked_end rows hr (Some p) (Some x) (Some y) a b = ap (λ (end : ℕ). Some end) (one_greedy_end rows hr p x y a b)

one_outcome : (rows : List Row) → IsRows rows → (sharing : Sharing) (defs : List ℕ) (workers : Option ℕ) (outcome other : Outcome)
    → IsOutcome rows sharing defs workers outcome → IsOutcome rows sharing defs workers other → ComeToTheSame outcome other
one_outcome rows hr sharing defs workers outcome other a b =
    let starts : a.starts ≡ b.starts = one_plan (seen sharing rows) a.starts b.starts a.earliest b.earliest in
    let steps : a.steps ≡ b.steps = one_chain (seen sharing rows) b.starts a.steps b.steps
    (subst (λ (plan : List ℕ). IsPicked (seen sharing rows) plan a.steps) starts a.picked) b.picked in
    record {
      work = a.work ∙ sym b.work;
      span = one_span (seen sharing rows) outcome.span other.span a.span b.span;
      end = one_asked_end (seen sharing rows) (rows_seen sharing rows hr) workers outcome.end other.end a.end b.end;
      by_def = one_list_by_def defs b.steps outcome.by_def.items other.by_def.items
          (subst (λ (chain : List ChainStep). AreSharesByDef defs chain outcome.by_def.items) steps a.by_def) b.by_def;
    }

one_short_report : (names others : Names) → CallTheSame names others → (sharing : Sharing) (workers : Option ℕ) (before after : List Row)
    → IsRows before → IsRows after → (output other : List ℕ) → IsShortReport names sharing workers before after output
    → IsShortReport others sharing workers before after other → output ≡ other
one_short_report names others same sharing workers before after hb ha output other a b =
    a.text
    ∙ one_short_text names others same a.was a.now b.was b.now
    (one_outcome before hb sharing others.defs.items workers a.was b.was
    (subst (λ (defs : List ℕ). IsOutcome before sharing defs workers a.was) same.defs a.was_is) b.was_is)
    (one_outcome after ha sharing others.defs.items workers a.now b.now
    (subst (λ (defs : List ℕ). IsOutcome after sharing defs workers a.now) same.defs a.now_is) b.now_is)
    ∙ sym b.text

one_report_after : (short : Bool) (names others : Names) → CallTheSame names others → (sharing : Sharing) (plans : AskedPlans) (before after : List Row)
    → IsRows before → IsRows after → (output other : List ℕ) → IsReportAfter short names sharing plans before after output
    → IsReportAfter short others sharing plans before after other → output ≡ other
one_report_after false names others same sharing plans before after hb ha output other a b =
    one_report (seen sharing after) (rows_seen sharing after ha) plans output other a b
one_report_after true names others same sharing plans before after hb ha output other a b =
    one_short_report names others same sharing plans.workers before after hb ha output other a b

-- rows that are called alike have one report after what is asked for
pub one_whatif_report : (names others : Names) → CallTheSame names others → (changes : AskedChanges) (sharing : Sharing)
    (plans : AskedPlans) (short : Bool) (rows : List Row) → IsRows rows → (output other : List ℕ)
    → IsWhatIfReport names changes sharing plans short rows output → IsWhatIfReport others changes sharing plans short rows other → output ≡ other
one_whatif_report names others same changes sharing plans short rows hr output other a b =
    let after : a.after ≡ b.after = one_change rows names others same changes a.after b.after a.changed b.changed in
    one_report_after short names others same sharing plans rows b.after hr
    (rows_changed rows names others same changes a.after b.after a.changed b.changed hr) output other
    (subst (λ (list : List Row). IsReportAfter short names sharing plans rows list output) after a.told) b.told

-- and one of a run
pub one_measured_report : (names others : Names) → CallTheSame names others → (changes : AskedChanges) (sharing : Sharing)
    (plans : AskedPlans) (short : Bool) (rows : List Row) → IsRows rows → (output other : List ℕ)
    → IsMeasuredReport names changes sharing plans short rows output → IsMeasuredReport others changes sharing plans short rows other → output ≡ other
one_measured_report names others same changes sharing plans short rows hr output other a b =
    let measured : a.measured ≡ b.measured =
    one_measured changes.typical names.defs.items others.defs.items same.defs rows a.measured b.measured hr a.measured_are b.measured_are in
    one_whatif_report names others same changes sharing plans short b.measured
    (are_rows changes.typical others.defs.items rows b.measured hr b.measured_are) output other
    (subst (λ (list : List Row). IsWhatIfReport names changes sharing plans short list output) measured a.told) b.told

pub one_whatif_answer : (file : Option WhatIfFile) (bytes : List ℕ) (changes : AskedChanges) (sharing : Sharing)
    (plans : AskedPlans) (short : Bool) (input output other : List ℕ) → IsWhatIfAnswer file bytes changes sharing plans short input output
    → IsWhatIfAnswer file bytes changes sharing plans short input other → output ≡ other
one_whatif_answer file bytes changes sharing plans short input output other a b =
    let is : IsTextOf input b.recorded = is_text_of file bytes input b.recorded b.names b.named in
    let recorded : a.recorded ≡ b.recorded =
    one_record input a.recorded b.recorded (is_text_of file bytes input a.recorded a.names a.named) is in
    let called : CallTheSame a.names b.names = one_named_record file bytes input b.recorded a.names b.names
    (subst (λ (r : Recorded). IsNamedRecord file bytes input r a.names) recorded a.named) b.named in
    one_measured_report a.names b.names called changes sharing plans short b.recorded.rows (rows_are b.recorded is.record_is) output other
    (subst (λ (r : Recorded). IsMeasuredReport a.names changes sharing plans short r.rows output) recorded a.report) b.report
