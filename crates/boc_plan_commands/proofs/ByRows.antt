-- What is asked for means the same whatever rows are called, where none is meant by a name and cowns are called by their numbers.
use Rattle.std.proofs.Common.{◌≡◌, ◌≢◌, ◌∙◌, ◌==◌, ◌&&◌, ◌++◌, ℕ, Bool, true, false, true≢false, List, [], ◌∷◌, String, inl, inr, length, ap, ap₂}
use Rattle.std.proofs.Common.{suc, not, refl, subst, sym, arith}
use Rattle.std.specs.Prelude.{All, Err, Ok, Result, string_bytes}
use Rattle.std.specs.Global.{Global}
use Rattle.std.proofs.lemmas.Bool.Decides.{nat_tests}
use Rattle.std.proofs.lemmas.List.{length-append}
use Rattle.std.specs.Result.{IsErrAnd}
use Rattle.std.specs.List.{list_all}
use Rattle.std.proofs.lemmas.List.Elements.{All-nil, All-cons, All-head, All-tail, All-weaker}
use Rattle.boc_machine_laws.proofs.Lists.{and_true}
use Rattle.boc_runs.specs.declared.rows.Row.{Row}
use Rattle.boc_plans.specs.declared.edit.Edit.{Edit}
use Rattle.boc_plans.specs.declared.sharing.Sharing.{Sharing}
use Rattle.boc_plans.specs.Edits.{AreEdited}
use Rattle.boc_plans.specs.Seen.{seen}
use Rattle.boc_names.specs.declared.names.Names.{Names}
use Rattle.boc_names.specs.Names.{AreNumbers}
use Rattle.boc_why.specs.Causes.{without_all}
use Rattle.boc_words.specs.declared.asked.AskedChanges.{AskedChanges}
use Rattle.boc_words.specs.declared.asked.AskedCown.{AskedCown}
use Rattle.boc_words.specs.declared.asked.AskedEdit.{AskedEdit}
use Rattle.boc_words.specs.declared.asked.AskedEdit.TheVariants as edits
use Rattle.boc_words.specs.declared.asked.AskedPlans.{AskedPlans}
use Rattle.boc_run_commands.specs.declared.fault.Fault.{Fault}
use Rattle.boc_run_commands.specs.declared.fault.Fault.TheVariants as faults
use Rattle.boc_run_commands.specs.declared.fault.InputFault.TheVariants as inputs
use Rattle.boc_run_commands.specs.declared.fault.Want.TheVariants as wants
use Rattle.boc_run_commands.specs.Answers.{IsReport}
use Rattle.boc_run_commands.specs.Commands.{RefusesNothing}
use Rattle.boc_run_commands.specs.Measured.{AreMeasured}
use Rattle.boc_plan_commands.specs.Asked.{AreAskedEarly, IsOfCowns, IsOfEarly, IsOfEdits, all_cowns, all_edits, cowns_of, edits_of, is_of_row, names_no_row}
use Rattle.boc_plan_commands.specs.Asked.{rows_of}
use Rattle.boc_plan_commands.specs.WhatIfAnswers.{AreChangedSo, IsMeasuredReport, IsOfAsked, IsOfMeasured, IsReportAfter, IsWhatIfReport}
use Rattle.boc_plan_commands.specs.WhatIfAnswers.{RefusesAsked, RefusesMeasured}
use Rattle.boc_run_commands.proofs.MeasuredRuns.{as_they_are}
use Rattle.boc_plan_commands.proofs.SameNames.{cowns_meant, same_cowns}

-- all edits are those of rows by their numbers
abbrev pub AreOfRows : List AskedEdit → Type 0
AreOfRows asked = list_all is_of_row asked ≡ true

-- the first of them is of a row, and so are the others
parts : (x : AskedEdit) (xs : List AskedEdit) → AreOfRows (x ∷ xs) → (is_of_row x ≡ true) × AreOfRows xs
parts x xs are = and_true (is_of_row x) (list_all is_of_row xs) are

in_front : (xs ys : List AskedEdit) → AreOfRows (xs ++ ys) → AreOfRows xs
in_front [] ys are = refl
in_front (x ∷ xs) ys are =
    let both = parts x (xs ++ ys) are in
    ap₂ ◌&&◌ both.0 (in_front xs ys both.1)

behind : (xs ys : List AskedEdit) → AreOfRows (xs ++ ys) → AreOfRows ys
behind [] ys are = are
behind (x ∷ xs) ys are = behind xs ys (parts x (xs ++ ys) are).1

is_some : (n : ℕ) → (suc n == 0) ≡ false
is_some n = grind (arith, nat_tests)

no_length : {A : Type 0} (xs : List A) → (length xs == 0) ≡ true → xs ≡ []
no_length [] none = refl
no_length (x ∷ xs) none = absurd (true≢false (sym none ∙ is_some (length xs)))

-- what is refused of the rows that are reported on is refused of the run
pub refused_measured : (names : Names) (changes : AskedChanges) (rows measured : List Row) (result : Result (Unit {0}) Fault)
    → AreMeasured changes.typical names.defs.items rows measured → RefusesAsked names changes measured result → RefusesMeasured names changes rows result
refused_measured names changes rows measured (Ok done) are is = tt
refused_measured names changes rows measured (Err fault) are is = go fault is
  where
    of : (x : Fault) → IsOfAsked names changes measured x → IsOfMeasured names changes rows x
    of x w = record { measured = measured; measured_are = are; unfit = w }

    go : (x : Fault) → RefusesAsked {A = Unit {0}} names changes measured (Err x) → RefusesMeasured {A = Unit {0}} names changes rows (Err x)
    go (faults.Means want) w = tt
    go (faults.Words r) w = of (faults.Words r) w
    go (faults.Input r) w = of (faults.Input r) w
    go (faults.Run r) w = of (faults.Run r) w
    go faults.Unscheduled w = of faults.Unscheduled w
    go (faults.Window c) w = of (faults.Window c) w
    go (faults.End c) w = of (faults.End c) w

not_true : (b : Bool) → not b ≡ true → b ≡ false
not_true false is = refl
not_true true is = absurd (true≢false (sym is))

-- what is asked for names no row, so rows have their own ticks, no def is to spawn early, all of its edits are of rows, and it is told in full
pub named_none : (short : Bool) (changes : AskedChanges) → names_no_row short changes ≡ true
    → (short ≡ false) × (changes.early.items ≡ []) × AreOfRows changes.edits.items × (changes.typical ≡ false)
named_none true changes none = absurd (true≢false (sym none))
named_none false changes none =
    let both = and_true (not changes.typical && (length changes.early.items == 0)) (list_all is_of_row changes.edits.items) none in
    let plain = and_true (not changes.typical) (length changes.early.items == 0) both.0 in
    (refl, no_length changes.early.items plain.1, both.1, not_true changes.typical plain.0)

-- of rows with their own ticks the report is that of the run
pub plain_report : (names : Names) (changes : AskedChanges) (sharing : Sharing) (plans : AskedPlans) (short : Bool) (rows : List Row) (text : List ℕ)
    → changes.typical ≡ false → IsWhatIfReport names changes sharing plans short rows text → IsMeasuredReport names changes sharing plans short rows text
plain_report names changes sharing plans short rows text plain told =
    record { measured = rows; measured_are = as_they_are changes.typical names.defs.items rows plain; told = told }

-- and what is refused is refused of the run
pub plain_refused : (names : Names) (changes : AskedChanges) (rows : List Row) (result : Result (Unit {0}) Fault) → changes.typical ≡ false
    → RefusesAsked names changes rows result → RefusesMeasured names changes rows result
plain_refused names changes rows result plain is = refused_measured names changes rows rows result (as_they_are changes.typical names.defs.items rows plain) is

module _ (a b : Names) where
  edit_meant : (x : AskedEdit) → is_of_row x ≡ true → edits_of a x ≡ edits_of b x
  edit_meant (edits.Row edit) is = refl
  edit_meant (edits.Def name part) is = absurd (true≢false (sym is))

  edits_meant : (xs : List AskedEdit) → AreOfRows xs → all_edits a xs ≡ all_edits b xs
  edits_meant [] are = refl
  edits_meant (x ∷ xs) are =
      let both = parts x xs are in
      ap₂ ◌++◌ (edit_meant x both.0) (edits_meant xs both.1)

  some_meant : (xs : List AskedEdit) → AreOfRows xs → All (λ x. edits_of a x ≢ []) xs → All (λ x. edits_of b x ≢ []) xs
  some_meant [] are some = All-nil (λ x. edits_of b x ≢ [])
  some_meant (x ∷ xs) are some =
      let both = parts x xs are in
      All-cons (λ x. edits_of b x ≢ []) x xs (λ none. All-head (λ x. edits_of a x ≢ []) x xs some (edit_meant x both.0 ∙ none))
      (some_meant xs both.1 (All-tail (λ x. edits_of a x ≢ []) x xs some))

  edits_unfit : (rows : List Row) (asked : List AskedEdit) (fault : Fault) → AreOfRows asked → IsOfEdits a rows asked fault → IsOfEdits b rows asked fault
  edits_unfit rows asked (faults.Input (inputs.Edit number fault)) are u =
      let all : AreOfRows (u.before ++ (u.one ∷ u.after)) = subst AreOfRows u.split are in
      let front : AreOfRows u.before = in_front u.before (u.one ∷ u.after) all in
      record {
        before = u.before;
        one = u.one;
        after = u.after;
        split = u.split;
        number_is = u.number_is;
        known = some_meant u.before front u.known;
        front = u.front;
        edit = u.edit;
        back = u.back;
        own = sym (edit_meant u.one (parts u.one u.after (behind u.before (u.one ∷ u.after) all)).0) ∙ u.own;
        made = u.made;
        edited = subst (λ (l : List Edit). AreEdited rows (l ++ u.front) u.made) (edits_meant u.before front) u.edited;
        wrong = u.wrong;
      }
  edits_unfit rows asked (faults.Input (inputs.Def number)) are u =
      let first = u.first in
      let all : AreOfRows (first.before ++ (first.one ∷ first.after)) = subst AreOfRows first.split are in
      let front : AreOfRows first.before = in_front first.before (first.one ∷ first.after) all in
      record {
        first = record {
          before = first.before;
          one = first.one;
          after = first.after;
          split = first.split;
          number_is = first.number_is;
          known = some_meant first.before front first.known;
          unmeant = sym (edit_meant first.one (parts first.one first.after (behind first.before (first.one ∷ first.after) all)).0) ∙ first.unmeant;
        };
        made = u.made;
        edited = subst (λ (l : List Edit). AreEdited rows l u.made) (edits_meant first.before front) u.edited;
      }
  edits_unfit rows asked (faults.Means wants.Memory) are u = u
  edits_unfit rows asked _ are u = u

-- where no def is to spawn early, names don't matter
no_early : (a b : Names) (before : List Row) (asked : List (String Global)) (after : List Row) → asked ≡ [] → AreAskedEarly a before asked after
    → AreAskedEarly b before asked after
no_early a b before [] after none early = record { known = All-nil (λ def. rows_of b (string_bytes def) ≢ []); made = early.made }
no_early a b before (def ∷ defs) after none early = absurd (omega (arith, ap (length {A = String Global}) none))

early_unmeant : (a b : Names) (asked : List (String Global)) (fault : Fault) → asked ≡ [] → IsOfEarly a asked fault → IsOfEarly b asked fault
early_unmeant a b asked (faults.Input (inputs.Early number)) none u = absurd (omega (
  arith,
  ap (length {A = String Global}) (sym none ∙ u.split),
  length-append u.before (u.one ∷ u.after),
))
early_unmeant a b asked (faults.Means wants.Memory) none u = u
early_unmeant a b asked _ none u = u

module _ (rows others count : ℕ) (a b : Names) (one : AreNumbers rows count a) (other : AreNumbers others count b) where
  cowns_unmeant : (asked : List AskedCown) (fault : Fault) → IsOfCowns a asked fault → IsOfCowns b asked fault
  cowns_unmeant asked (faults.Input (inputs.Cown number)) u = record {
    before = u.before;
    one = u.one;
    after = u.after;
    split = u.split;
    number_is = u.number_is;
    known = All-weaker (λ x. cowns_of a x ≢ []) (λ x. cowns_of b x ≢ [])
        (λ x some none. some (cowns_meant rows others count a b one other x ∙ none)) u.before u.known;
    unmeant = sym (cowns_meant rows others count a b one other u.one) ∙ u.unmeant;
  }
  cowns_unmeant asked (faults.Means wants.Memory) u = u
  cowns_unmeant asked _ u = u

  known_too : (asked : List AskedCown) → All (λ x. cowns_of a x ≢ []) asked → All (λ x. cowns_of b x ≢ []) asked
  known_too asked known = All-weaker (λ x. cowns_of a x ≢ []) (λ x. cowns_of b x ≢ [])
      (λ x some none. some (cowns_meant rows others count a b one other x ∙ none)) asked known

  spawned_too : (changes : AskedChanges) (before spawned : List Row) → changes.early.items ≡ []
      → AreAskedEarly a (without_all (all_cowns a changes.cowns.items) before) changes.early.items spawned
      → AreAskedEarly b (without_all (all_cowns b changes.cowns.items) before) changes.early.items spawned
  spawned_too changes before spawned none early =
      subst (λ (l : List ℕ). AreAskedEarly b (without_all l before) changes.early.items spawned)
      (same_cowns rows others count a b one other changes.cowns.items)
      (no_early a b (without_all (all_cowns a changes.cowns.items) before) changes.early.items spawned none early)

  -- the rows change so in the other names too
  pub changed_too : (changes : AskedChanges) (before after : List Row) → changes.early.items ≡ [] → AreOfRows changes.edits.items
      → AreChangedSo a changes before after → AreChangedSo b changes before after
  changed_too changes before after none are changed = record {
    known = known_too changes.cowns.items changed.known;
    spawned = changed.spawned;
    early = spawned_too changes before changed.spawned none changed.early;
    asked_for = record {
      known = some_meant a b changes.edits.items are changed.asked_for.known;
      edited = subst (λ (l : List Edit). AreEdited changed.spawned l after) (edits_meant a b changes.edits.items are) changed.asked_for.edited;
    };
  }

  -- and are refused so
  asked_too : (changes : AskedChanges) (before : List Row) (fault : Fault) → changes.early.items ≡ [] → AreOfRows changes.edits.items
      → IsOfAsked a changes before fault → IsOfAsked b changes before fault
  asked_too changes before fault none are (inl unmeant) = inl (cowns_unmeant changes.cowns.items fault unmeant)
  asked_too changes before fault none are (inr (inl early)) = inr (inl (record {
    known = known_too changes.cowns.items early.known;
    unmeant = early_unmeant a b changes.early.items fault none early.unmeant;
  }))
  asked_too changes before fault none are (inr (inr unfit)) = inr (inr (record {
    known = known_too changes.cowns.items unfit.known;
    spawned = unfit.spawned;
    early = spawned_too changes before unfit.spawned none unfit.early;
    unfit = edits_unfit a b unfit.spawned changes.edits.items fault are unfit.unfit;
  }))

  pub refused_too : (changes : AskedChanges) (before : List Row) (fault : Fault) → changes.early.items ≡ [] → AreOfRows changes.edits.items
      → IsOfAsked a changes before fault → RefusesAsked {A = Unit {0}} b changes before (Err fault)
  refused_too changes before (faults.Means want) none are is = tt
  refused_too changes before fault none are is = asked_too changes before fault none are is

-- what a part refuses is refused
pub refused_from : (names : Names) (changes : AskedChanges) (rows : List Row) (result : Result (Unit {0}) Fault) (fault : Fault)
    → IsErrAnd result (λ f. f ≡ fault) → RefusesAsked {A = Unit {0}} names changes rows (Err fault) → RefusesAsked names changes rows result
refused_from names changes rows (Ok done) fault h is = absurd h
refused_from names changes rows (Err f) fault h is =
    subst (λ (x : Fault). RefusesAsked {A = Unit {0}} names changes rows (Err x)) (sym h) is

-- what refuses nothing refuses nothing of what is asked for
pub refused_none : (names : Names) (changes : AskedChanges) (rows : List Row) (result : Result (Unit {0}) Fault)
    → RefusesNothing result → RefusesAsked names changes rows result
refused_none names changes rows (Ok done) h = tt
refused_none names changes rows (Err (faults.Means want)) h = tt
refused_none names changes rows (Err fault) h = absurd h

-- the report on rows after they change, in these names
pub reported : (names : Names) (changes : AskedChanges) (sharing kept : Sharing) (plans : AskedPlans) (short : Bool)
    (rows after : List Row) (text : List ℕ) → short ≡ false → kept ≡ sharing → AreChangedSo names changes rows after
    → IsReport (seen kept after) plans text → IsWhatIfReport names changes sharing plans short rows text
reported names changes sharing kept plans short rows after text full way changed told = record {
  after = after;
  changed = changed;
  told = subst (λ (s : Bool). IsReportAfter s names sharing plans rows after text) (sym full)
      (subst (λ (s : Sharing). IsReport (seen s after) plans text) way told);
}
