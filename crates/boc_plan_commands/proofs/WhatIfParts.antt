-- What is supposed of rows, and what is told of it.
use Rattle.std.proofs.Common.{◌≡◌, ◌≢◌, ◌∙◌, ◌+◌, ◌<◌, ◌==◌, ℕ, Bool, true, false, true≢false, List, [], ◌∷◌, ◌++◌, String, length, map, take, get_or}
use Rattle.std.proofs.KnownBytes.{Keeps-refl}
use Rattle.std.proofs.Common.{Option, None, Result, Ok, Err, inl, inr, ap, refl, sym, subst, arith}
use Rattle.std.specs.Prelude.{All, MatchResult, filter, string_bytes}
use Rattle.std.specs.Global.{Global}
use Rattle.std.specs.Int.{from_bool}
use Rattle.std.specs.List.{list_any, range_with_len}
use Rattle.std.proofs.lemmas.List.{take_more}
use Rattle.std.proofs.lemmas.List.FromFn.{length-map-range_with_len}
use Rattle.std.specs.Result.{IsErrAnd}
use Rattle.boc_runs.specs.declared.rows.Row.{Row}
use Rattle.boc_runs.proofs.Freeing.{length-without}
use Rattle.boc_plans.specs.declared.edit.Edit.{Edit}
use Rattle.boc_plans.specs.declared.sharing.Sharing.{Sharing}
use Rattle.boc_plans.specs.Edits.{AreEdited}
use Rattle.boc_whatif.proofs.Changing.{changed_length}
use Rattle.boc_names.specs.declared.names.Names.{Names}
use Rattle.boc_names.specs.Names.{Text}
use Rattle.boc_why.specs.Causes.{AreSpawnedEarly, without_all}
use Rattle.boc_why_report.specs.declared.short.Outcome.{Outcome}
use Rattle.boc_why_report.specs.ShortTexts.{short_text}
use Rattle.boc_words.specs.declared.asked.AskedChanges.{AskedChanges}
use Rattle.boc_words.specs.declared.asked.AskedCown.{AskedCown}
use Rattle.boc_words.specs.declared.asked.AskedEdit.{AskedEdit}
use Rattle.boc_run_commands.specs.declared.fault.Fault.{Fault}
use Rattle.boc_run_commands.specs.declared.fault.Fault.TheVariants as faults
use Rattle.boc_run_commands.specs.declared.fault.Want.TheVariants as means
use Rattle.boc_plan_commands.specs.Asked.{AreAskedEarly, AreAskedFor, AreMadeEarly, IsOfEdits, all_cowns, cowns_of, is_of, marks_of, rows_of}
use Rattle.boc_run_commands.specs.Commands.{CountsSource, Leaves, LeavesAfter}
use Rattle.boc_run_commands.specs.Faults.{gone_of}
use Rattle.boc_plan_commands.specs.WhatIfAnswers.{AreChangedSo, IsOfAsked, IsOutcome, IsShortAnswer}

-- ---- as many rows

pub left_length : (cowns : List ℕ) (rows : List Row) → length (without_all cowns rows) ≡ length rows
left_length [] rows = refl
left_length (cown ∷ cowns) rows = left_length cowns _ ∙ length-without cown rows

edited_length : (rows : List Row) (edits : List Edit) (after : List Row) → AreEdited rows edits after → length after ≡ length rows
edited_length rows [] after made = ap (length {A = Row}) made
edited_length rows (edit ∷ edits) after made = edited_length made.0 edits after made.2 ∙ changed_length rows edit.row edit.change made.0 made.1

spawned_length : (names : Names) (rows : List Row) (defs : List (String Global)) (after : List Row) → AreMadeEarly names rows defs after
    → length after ≡ length rows
spawned_length names rows [] after made = ap (length {A = Row}) made
spawned_length names rows (def ∷ defs) after made = spawned_length names made.0 defs after made.2 ∙ made.1.whole

-- rows are as many after all that is supposed of them
pub supposed_length : (names : Names) (changes : AskedChanges) (rows after : List Row) → AreChangedSo names changes rows after
    → length after ≡ length rows
supposed_length names changes rows after changed =
    edited_length changed.spawned _ after changed.asked_for.edited
    ∙ spawned_length names (without_all (all_cowns names changes.cowns.items) rows) changes.early.items changed.spawned changed.early.made
    ∙ left_length (all_cowns names changes.cowns.items) rows

-- ---- defs that spawn early, one after the other

made_more : (names : Names) (rows : List Row) (defs : List (String Global)) (def : String Global) (between after : List Row)
    → AreMadeEarly names rows defs between → AreSpawnedEarly between (marks_of names (string_bytes def)) 1 after
    → AreMadeEarly names rows (defs ++ def ∷ []) after
made_more names rows [] def between after made spawned =
    (after, subst (λ (r : List Row). AreSpawnedEarly r (marks_of names (string_bytes def)) 1 after) made spawned, refl)
made_more names rows (first ∷ defs) def between after made spawned =
    (made.0, made.1, made_more names made.0 defs def between after made.2 spawned)

-- one more
pub made_next : (names : Names) (rows : List Row) (defs : List (String Global)) (i : ℕ) (def : String Global) (between after : List Row) → i < length defs
    → def ≡ get_or defs i def → AreMadeEarly names rows (take i defs) between → AreSpawnedEarly between (marks_of names (string_bytes def)) 1 after
    → AreMadeEarly names rows (take (i + 1) defs) after
made_next names rows defs i def between after h own made spawned =
    rw (take_more defs i def h) (subst (λ (d : String Global). AreMadeEarly names rows (take i defs ++ d ∷ []) after) own
    (made_more names rows (take i defs) def between after made spawned))

-- there are as many marks as rows
pub marked_rows : (names : Names) (name : Text) (rows : List Row) (defs : List (String Global)) (i : ℕ) (between : List Row) → i < length defs
    → (defs ≢ [] → length names.defs.items ≡ length rows) → AreMadeEarly names rows (take i defs) between
    → length (marks_of names name) ≡ length between
marked_rows names name rows [] i between below whole made = absurd (omega (arith, below))
marked_rows names name rows (def ∷ defs) i between below whole made =
    length-map-range_with_len (λ (row : ℕ). from_bool (is_of names name row)) 0 (length names.defs.items)
    ∙ whole (λ none. absurd (omega (arith, ap (length {A = String Global}) none)))
    ∙ sym (spawned_length names rows (take i (def ∷ defs)) between made)

-- a mark says that there is a row
one_marked : (is : ℕ → Bool) (rows : List ℕ) → list_any (λ mark. mark == 1) (map (λ row. from_bool (is row)) rows) ≡ true → filter is rows ≢ []
one_marked is [] marked none = absurd (true≢false (sym marked))
one_marked is (row ∷ rows) marked none = go (is row) refl (one_marked is rows)
  where
    go : (b : Bool) → is row ≡ b → (list_any (λ mark. mark == 1) (map (λ row. from_bool (is row)) rows) ≡ true → filter is rows ≢ []) → ⊥
    go true own rest = let e : row ∷ filter is rows ≡ [] = rw own at none in absurd (omega (arith, ap (length {A = ℕ}) e))
    go false own rest = rest (rw own at marked) (rw own at none)

none_marked : (is : ℕ → Bool) (rows : List ℕ) → list_any (λ mark. mark == 1) (map (λ row. from_bool (is row)) rows) ≡ false → filter is rows ≡ []
none_marked is [] bare = refl
none_marked is (row ∷ rows) bare = go (is row) refl (none_marked is rows)
  where
    go : (b : Bool) → is row ≡ b → (list_any (λ mark. mark == 1) (map (λ row. from_bool (is row)) rows) ≡ false → filter is rows ≡ [])
        → filter is (row ∷ rows) ≡ []
    go true own rest = absurd (true≢false (rw own at bare))
    go false own rest = rw own (rest (rw own at bare))

pub some_row_marked : (names : Names) (name : Text) → list_any (λ mark. mark == 1) (marks_of names name) ≡ true → rows_of names name ≢ []
some_row_marked names name = one_marked (is_of names name) (range_with_len 0 (length names.defs.items))

pub no_row_marked : (names : Names) (name : Text) → list_any (λ mark. mark == 1) (marks_of names name) ≡ false → rows_of names name ≡ []
no_row_marked names name = none_marked (is_of names name) (range_with_len 0 (length names.defs.items))

-- ---- all changes, one after the other

module _ {A : Type 0} (rows_after : A → List Row) (names : Names) (changes : AskedChanges) (rows spawned before : List Row) (left : List ℕ)
    (cowns : List AskedCown) (early : List (String Global)) (edits : List AskedEdit) (cowns_are : cowns ≡ changes.cowns.items)
    (early_are : early ≡ changes.early.items) (edits_are : edits ≡ changes.edits.items) (left_is : left ≡ all_cowns names cowns)
    (known : All (λ a. cowns_of names a ≢ []) cowns) (made : AreAskedEarly names (without_all left rows) early spawned) (same : before ≡ spawned) where
  known_so : All (λ a. cowns_of names a ≢ []) changes.cowns.items
  known_so = subst (All (λ a. cowns_of names a ≢ [])) cowns_are known

  made_so : AreAskedEarly names (without_all (all_cowns names changes.cowns.items) rows) changes.early.items spawned
  made_so = subst (λ (l : List (String Global)). AreAskedEarly names (without_all (all_cowns names changes.cowns.items) rows) l spawned) early_are
      (subst (λ (l : List ℕ). AreAskedEarly names (without_all l rows) early spawned) (left_is ∙ ap (all_cowns names) cowns_are) made)

  pub all_changed : (result : Result A Fault) → MatchResult result (λ after. AreAskedFor names before edits (rows_after after)) (IsOfEdits names before edits)
      → MatchResult result (λ after. AreChangedSo names changes rows (rows_after after)) (IsOfAsked names changes rows)
  all_changed (Ok after) done = record {
    known = known_so;
    spawned = spawned;
    early = made_so;
    asked_for = subst (λ (l : List AskedEdit). AreAskedFor names spawned l (rows_after after)) edits_are
        (subst (λ (r : List Row). AreAskedFor names r edits (rows_after after)) same done);
  }
  all_changed (Err fault) wrong = inr (inr (record {
    known = known_so;
    spawned = spawned;
    early = made_so;
    unfit = subst (λ (l : List AskedEdit). IsOfEdits names spawned l fault) edits_are
        (subst (λ (r : List Row). IsOfEdits names r edits fault) same wrong);
  }))

-- ---- what is told

-- what the same rows come to
pub outcome_as : (rows other : List Row) (sharing kept : Sharing) (defs own : List ℕ) (workers : Option ℕ) (outcome : Outcome)
    → IsOutcome other kept own workers outcome → other ≡ rows → kept ≡ sharing → own ≡ defs → IsOutcome rows sharing defs workers outcome
outcome_as rows other sharing kept defs own workers outcome is same way named =
    subst (λ (d : List ℕ). IsOutcome rows sharing d workers outcome) named
    (subst (λ (s : Sharing). IsOutcome rows s own workers outcome) way (subst (λ (r : List Row). IsOutcome r kept own workers outcome) same is))

-- what is told in short of rows before and after
pub told_shortly : (names : Names) (changes : AskedChanges) (sharing : Sharing) (workers : Option ℕ) (rows after : List Row)
    (was now : Outcome) (text : List ℕ) → AreChangedSo names changes rows after → IsOutcome rows sharing names.defs.items workers was
    → IsOutcome after sharing names.defs.items workers now → text ≡ short_text names was now → IsShortAnswer names changes sharing workers rows text
told_shortly names changes sharing workers rows after was now text changed before behind is = record {
  after = after;
  changed = changed;
  told = record { was = was; was_is = before; now = now; now_is = behind; text = is };
}

-- a failing sink fails no source
pub keeps_source : (result : Result (Unit {0}) Fault) (gone : ℕ) → IsErrAnd result (λ f. f ≡ faults.Means (means.Sink gone)) → (count : ℕ)
    → CountsSource result count count
keeps_source (Ok done) gone is count = absurd is
keeps_source (Err f) gone is count = subst (λ (x : Fault). CountsSource {A = Unit {0}} (Err x) count count) (sym is) refl

-- a fault of what is asked for is none of the sink
none_gone : (names : Names) (changes : AskedChanges) (rows : List Row) (fault : Fault) → IsOfAsked names changes rows fault → gone_of fault ≡ None
none_gone names changes rows (faults.Words w) is = refl
none_gone names changes rows (faults.Input i) is = refl
none_gone names changes rows (faults.Run r) is = refl
none_gone names changes rows faults.Unscheduled is = refl
none_gone names changes rows (faults.Window w) is = refl
none_gone names changes rows (faults.End e) is = refl
none_gone names changes rows (faults.Means means.Memory) is = refl
none_gone names changes rows (faults.Means means.Source) is = refl
none_gone names changes rows (faults.Means (means.Sink gone)) (inl cowns) = absurd cowns
none_gone names changes rows (faults.Means (means.Sink gone)) (inr (inl early)) = absurd early.unmeant
none_gone names changes rows (faults.Means (means.Sink gone)) (inr (inr edits)) = absurd edits.unfit

-- so nothing goes out with it
pub leaves_unfit : (IsText : List ℕ → Type 0) (names : Names) (changes : AskedChanges) (rows : List Row) (result : Result (Unit {0}) Fault) (fault : Fault)
    (same : Option (List ℕ)) → IsErrAnd result (λ f. f ≡ fault) → IsOfAsked names changes rows fault → Leaves IsText result same same
leaves_unfit IsText names changes rows (Ok done) fault same is of = absurd is
leaves_unfit IsText names changes rows (Err f) fault same is of =
    subst (λ (x : Fault). LeavesAfter IsText (gone_of x) same same) (sym is)
    (subst (λ (gone : Option ℕ). LeavesAfter IsText gone same same) (sym (none_gone names changes rows fault of)) (Keeps-refl same))
