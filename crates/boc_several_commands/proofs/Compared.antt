-- What `compare` answers, and what it is refused for.
use Rattle.std.proofs.Common.{◌≡◌, ◌∙◌, ◌++◌, ◌<◌, ℕ, cond, List, [], ◌∷◌, Option, Result, Ok, Err, length, ap, append_assoc, arith, refl, sym, subst}
use Rattle.std.proofs.lemmas.List.{append-nil}
use Rattle.std.specs.Prelude.{OnOk, codes, is_ok}
use Rattle.std.specs.declared.alloc.AllocError.{AllocError}
use Rattle.std.specs.Result.{IsErrAnd}
use Rattle.boc_runs.specs.declared.rows.Row.{Row}
use Rattle.boc_names.specs.declared.names.Names.{Names}
use Rattle.boc_plans.specs.declared.sharing.Sharing.{Sharing}
use Rattle.boc_remedies.specs.Questions.{Asked}
use Rattle.boc_compare.specs.declared.side.Side.{Side}
use Rattle.boc_compare.specs.Sides.{IsSide}
use Rattle.boc_compare_report.specs.declared.told.Compared.{Compared}
use Rattle.boc_compare_report.specs.Compared.{IsCompareText}
use Rattle.boc_words.specs.declared.asked.AskedCompare.{AskedCompare}
use Rattle.boc_words.specs.declared.asked.CompareFiles.{CompareFiles}
use Rattle.boc_run_commands.specs.declared.fault.Fault.{Fault}
use Rattle.boc_run_commands.specs.declared.fault.Fault.TheVariants as faults
use Rattle.boc_run_commands.specs.declared.fault.Want.TheVariants as wants
use Rattle.boc_run_commands.specs.NamedRuns.{IsTaken}
use Rattle.boc_plan_commands.specs.WhyAnswers.{asked_of}
use Rattle.boc_several_commands.specs.Comparing.{AreCompared, AreNotesOf, IsComparedText, IsOfCompare, IsOfSide, RefusesCompare, notes_of_side}
use Rattle.boc_several_commands.specs.declared.compare.Pair.{Pair}
use Rattle.boc_several_commands.specs.declared.compare.Which.{Which}
use Rattle.boc_several_commands.specs.declared.side.Sided.{Sided}

-- ---- one side

-- what is asked of some rows with these defs, over cowns of these families
abbrev asked_with : List Row → List ℕ → List ℕ → Sharing → Option ℕ → Asked
asked_with rows defs families sharing workers =
    record { rows = rows; defs = defs; families = families; sharing = sharing; workers = workers }

-- what is known of rows whose defs and families are those of the names is known of them in the names
pub side_in_names : (rows : List Row) (names : Names) (sharing : Sharing) (workers : Option ℕ) (defs families : List ℕ) → defs ≡ names.defs.items
    → families ≡ names.families.items → (side : Side) → IsSide (asked_with rows defs families sharing workers) side
    → IsSide (asked_of rows names sharing workers) side
side_in_names rows names sharing workers defs families d f side is =
    subst (λ (own : List ℕ). IsSide (asked_with rows names.defs.items own sharing workers) side) f
    (subst (λ (own : List ℕ). IsSide (asked_with rows own families sharing workers) side) d is)

-- ---- both sides

-- what is reported of two sides is told
pub told_of_both : (asked : AskedCompare) (before after : Sided) (own : Compared) (text : List ℕ) → IsCompareText own text
    → AreCompared asked before after own → IsComparedText asked before after text
told_of_both asked before after own text is are = record { own = own; are = are; text_is = is }

-- of a side with no notes none are told
pub none_told : (head own old : List ℕ) → length own ≡ 0 → old ≡ old ++ notes_of_side head own
none_told head [] old none = sym (append-nil old)
none_told head (byte ∷ own) old none = absurd (omega (arith, none))

some_are : (head own : List ℕ) → 0 < length own → head ++ own ≡ notes_of_side head own
some_are head [] some = absurd (omega (arith, some))
some_are head (byte ∷ own) some = refl

-- and else a line with them behind it
pub some_told : (head own old once all : List ℕ) (result : Result (Unit {0}) AllocError) → 0 < length own → once ≡ old ++ head
    → all ≡ cond (is_ok result) (once ++ own) once → OnOk result (all ≡ old ++ notes_of_side head own)
some_told head own old once all (Ok done) some first second =
    second ∙ ap (λ text. text ++ own) first ∙ append_assoc old head own ∙ ap (λ text. old ++ text) (some_are head own some)
some_told head own old once all (Err refused) some first second = tt

-- the notes on both sides, as they were put one after the other
pub both_told : (before after : Sided) (first second none once all : List ℕ) → first ≡ before.notes.items → second ≡ after.notes.items → none ≡ []
    → once ≡ none ++ notes_of_side (codes "boc: note: in BEFORE:\n") first → all ≡ once ++ notes_of_side (codes "boc: note: in AFTER:\n") second
    → AreNotesOf before after all
both_told before after first second none once all a b empty one both =
    let own : once ≡ notes_of_side (codes "boc: note: in BEFORE:\n") before.notes.items =
    one ∙ (λ i. empty i ++ notes_of_side (codes "boc: note: in BEFORE:\n") (a i)) in
    both ∙ (λ i. own i ++ notes_of_side (codes "boc: note: in AFTER:\n") (b i))

-- ---- what is refused

-- a fault of one side is one of both
pub of_side : (always_on : Type 0) (asked : AskedCompare) (files : CompareFiles) (pair : Pair) (input : List ℕ) (which : Which) (fault : Fault)
    → IsOfSide always_on asked files pair input which fault → IsOfCompare always_on asked files pair input which fault
of_side always_on asked files pair input which (faults.Means wants.Memory) is = tt
of_side always_on asked files pair input which (faults.Means wants.Source) is = is
of_side always_on asked files pair input which (faults.Means (wants.Sink gone)) is = is
of_side always_on asked files pair input which (faults.Words w) is = is
of_side always_on asked files pair input which (faults.Input i) is = is
of_side always_on asked files pair input which (faults.Run r) is = is
of_side always_on asked files pair input which faults.Unscheduled is = is
of_side always_on asked files pair input which (faults.Window c) is = is
of_side always_on asked files pair input which (faults.End c) is = is

-- an input is refused for what was taken
pub refused_compare : (always_on : Type 0) (asked : AskedCompare) (files : CompareFiles) (pair : Pair) (which : Which) (result : Result (Unit {0}) Fault)
    (fault : Fault) (text : List ℕ) (before after : Option (List ℕ)) → IsErrAnd result (λ f. f ≡ fault) → IsTaken before after text
    → IsOfCompare always_on asked files pair text which fault → RefusesCompare always_on asked files pair which result before after
refused_compare always_on asked files pair which (Ok done) fault text before after h taken is = absurd h
refused_compare always_on asked files pair which (Err f) fault text before after h taken is =
    subst (λ (x : Fault). RefusesCompare {A = Unit {0}} always_on asked files pair which (Err x) before after) (sym h) (go fault is)
  where
    go : (x : Fault) → IsOfCompare always_on asked files pair text which x
        → RefusesCompare {A = Unit {0}} always_on asked files pair which (Err x) before after
    go (faults.Means w) is = tt
    go (faults.Words w) is = (text, taken, is)
    go (faults.Input i) is = (text, taken, is)
    go (faults.Run r) is = (text, taken, is)
    go faults.Unscheduled is = (text, taken, is)
    go (faults.Window c) is = (text, taken, is)
    go (faults.End c) is = (text, taken, is)
