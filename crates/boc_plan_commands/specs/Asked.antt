-- What the words of a command line mean in the names of a run.
use Rattle.std.specs.Prelude.{◌≡◌, ◌≢◌, ◌+◌, ◌<◌, ◌≤◌, ◌==◌, ◌&&◌, ◌||◌, ℕ, Bool, true, false, not, List, [], ◌∷◌, ◌++◌, length, map, filter, flat_map}
use Rattle.std.specs.Prelude.{take, sum, All, cond, nat_lt, Some, String, slice_get, slice_index, codes, string_bytes}
use Rattle.std.specs.Global.{Global}
use Rattle.std.specs.List.{list_all, range_with_len}
use Rattle.std.specs.Int.{from_bool}
use Rattle.std.specs.Str.{bytes_eq}
use Rattle.boc_runs.specs.declared.rows.Row.{Row}
use Rattle.boc_plans.specs.declared.edit.Edit.{Edit}
use Rattle.boc_plans.specs.declared.edit.EditFault.{EditFault}
use Rattle.boc_plans.specs.declared.edit.Change.TheVariants.{Cost}
use Rattle.boc_plans.specs.Edits.{AreEdited, IsEditFault}
use Rattle.boc_plans.specs.Fractions.{Fraction}
use Rattle.boc_names.specs.declared.names.Names.{Names}
use Rattle.boc_names.specs.Names.{Text, text_at, texts_of}
use Rattle.boc_why.specs.Causes.{AreSpawnedEarly}
use Rattle.boc_words.specs.declared.asked.AskedChanges.{AskedChanges}
use Rattle.boc_words.specs.declared.asked.AskedCown.{AskedCown}
use Rattle.boc_words.specs.declared.asked.AskedCown.TheVariants as cowns
use Rattle.boc_words.specs.declared.asked.AskedEdit.{AskedEdit}
use Rattle.boc_words.specs.declared.asked.AskedEdit.TheVariants as edits
use Rattle.boc_plan_commands.specs.declared.meant.MeantEdits.{MeantEdits}
use Rattle.boc_run_commands.specs.declared.fault.Fault.{Fault}
use Rattle.boc_run_commands.specs.declared.fault.Fault.TheVariants as faults
use Rattle.boc_run_commands.specs.declared.fault.InputFault.TheVariants as inputs
use Rattle.boc_run_commands.specs.declared.fault.Want.TheVariants as wants

-- ---- cowns

-- the name of a family that is an array: the array's, with a star
abbrev pub starred : Text → Text
starred name = name ++ codes "[*]"

-- what the family of a cown is called
abbrev pub family_of : Names → ℕ → Text
family_of names cown = text_at (texts_of names.family_names.items) (slice_index names.families.items cown)

-- a cown has this name, or its family has it
abbrev pub has_name : Names → Text → ℕ → Bool
has_name names name cown = bytes_eq (text_at (texts_of names.cowns.items) cown) name || bytes_eq (family_of names cown) name

-- the cowns that have this name, or whose family has it, rising
abbrev pub named : Names → Text → List ℕ
named names name = filter (has_name names name) (range_with_len 0 (length names.cowns.items))

-- the first list, or where that is empty the second
abbrev pub first_some : List ℕ → List ℕ → List ℕ
first_some [] others = others
first_some (cown ∷ cowns) others = cown ∷ cowns

-- the cowns that are called so: those with this name, or where there is none the members of the array with it
abbrev pub called : Names → Text → List ℕ
called names name = first_some (named names name) (named names (starred name))

-- the cowns that are meant, rising: the one with a number, if there is one, or all that are called so
abbrev pub cowns_of : Names → AskedCown → List ℕ
cowns_of names (cowns.Number number) = cond (nat_lt number (length names.cowns.items)) (number ∷ []) []
cowns_of names (cowns.Name name) = called names (string_bytes name)

-- all cowns that are meant, those of one asked cown after those of another
abbrev pub all_cowns : Names → List AskedCown → List ℕ
all_cowns names asked = flat_map (cowns_of names) asked

-- ---- defs

-- a row is of the def with this name
abbrev pub is_of : Names → Text → ℕ → Bool
is_of names name row = bytes_eq (text_at (texts_of names.def_names.items) (slice_index names.defs.items row)) name

-- the rows of the def with this name, rising
abbrev pub rows_of : Names → Text → List ℕ
rows_of names name = filter (is_of names name) (range_with_len 0 (length names.defs.items))

-- for each row 1 where it is of the def with this name, and else 0
abbrev pub marks_of : Names → Text → List ℕ
marks_of names name = map (λ row. from_bool (is_of names name row)) (range_with_len 0 (length names.defs.items))

-- def by def, the rows of each spawn as early as they can, and these are the rows after that
abbrev pub AreMadeEarly : Names → List Row → List (String Global) → List Row → Type 0
AreMadeEarly names rows [] after = after ≡ rows
AreMadeEarly names rows (def ∷ defs) after =
    (next : List Row) × AreSpawnedEarly rows (marks_of names (string_bytes def)) 1 next × AreMadeEarly names next defs after

-- each of these defs has a row, and its rows spawn as early as they can
pub record AreAskedEarly (names : Names) (rows : List Row) (asked : List (String Global)) (after : List Row) : Type 0 where
  pub known : All (λ def. rows_of names (string_bytes def) ≢ []) asked
  pub made : AreMadeEarly names rows asked after

-- ---- edits

-- an edit is that of one row, by its number
abbrev pub is_of_row : AskedEdit → Bool
is_of_row (edits.Row edit) = true
is_of_row (edits.Def name part) = false

-- no row is told by a name, in short, none is meant by one, and none takes the ticks that are typical of its name
abbrev pub names_no_row : Bool → AskedChanges → Bool
names_no_row short changes =
    not short && not changes.typical && (length changes.early.items == 0) && list_all is_of_row changes.edits.items

-- a row is to cost this part of what it did
abbrev pub costs : Fraction → ℕ → Edit
costs part row = record { row = row; change = Cost part }

-- the edits that are meant: that of a row, or one for each row of the def with a name, rising
abbrev pub edits_of : Names → AskedEdit → List Edit
edits_of names (edits.Row edit) = edit ∷ []
edits_of names (edits.Def name part) = map (costs part) (rows_of names (string_bytes name))

-- all edits that are meant, those of one asked edit after those of another
abbrev pub all_edits : Names → List AskedEdit → List Edit
all_edits names asked = flat_map (edits_of names) asked

-- ---- what is refused

-- of some things the one with this number, counted from 1, is the first that means nothing
pub record IsFirstUnmeant {A B : Type 0} (meant : A → List B) (asked : List A) (number : ℕ) : Type 0 where
  pub before : List A
  pub one : A
  pub after : List A
  pub split : asked ≡ before ++ (one ∷ after)
  pub number_is : number ≡ length before + 1
  pub known : All (λ a. meant a ≢ []) before
  pub unmeant : meant one ≡ []

-- a fault of the cowns that are asked for: the first that means none, or memory was refused
abbrev pub IsOfCowns : Names → List AskedCown → Fault → Type 0
IsOfCowns names asked (faults.Input (inputs.Cown number)) = IsFirstUnmeant (cowns_of names) asked number
IsOfCowns names asked (faults.Means wants.Memory) = Unit {0}
IsOfCowns names asked _ = ⊥

-- a fault of the defs that are to spawn early: the first that no row is of, or memory was refused
abbrev pub IsOfEarly : Names → List (String Global) → Fault → Type 0
IsOfEarly names asked (faults.Input (inputs.Early number)) = IsFirstUnmeant (λ def. rows_of names (string_bytes def)) asked number
IsOfEarly names asked (faults.Means wants.Memory) = Unit {0}
IsOfEarly names asked _ = ⊥

-- every asked edit means some, and the rows take all of them, one after the other, and are these after them
pub record AreAskedFor (names : Names) (rows : List Row) (asked : List AskedEdit) (after : List Row) : Type 0 where
  pub known : All (λ a. edits_of names a ≢ []) asked
  pub edited : AreEdited rows (all_edits names asked) after

-- The asked edit with this number, counted from 1, is the first that the rows can't take: each before it means some row and was made, and of its own
-- edits those before one were made too, which has this fault on the rows as all of them have made them.
pub record IsFirstUnfitAsked (names : Names) (rows : List Row) (asked : List AskedEdit) (number : ℕ) (fault : EditFault) : Type 0 where
  pub before : List AskedEdit
  pub one : AskedEdit
  pub after : List AskedEdit
  pub split : asked ≡ before ++ (one ∷ after)
  pub number_is : number ≡ length before + 1
  pub known : All (λ a. edits_of names a ≢ []) before
  pub front : List Edit
  pub edit : Edit
  pub back : List Edit
  pub own : edits_of names one ≡ front ++ (edit ∷ back)
  pub made : List Row
  pub edited : AreEdited rows (all_edits names before ++ front) made
  pub wrong : IsEditFault made edit fault

-- the asked edit with this number, counted from 1, is the first that means no row, and the rows take all before it
pub record IsFirstOfNone (names : Names) (rows : List Row) (asked : List AskedEdit) (number : ℕ) : Type 0 where
  pub first : IsFirstUnmeant (edits_of names) asked number
  pub made : List Row
  pub edited : AreEdited rows (all_edits names first.before) made

-- a fault of the edits that are asked for: the first that the rows can't take or that means none, or memory was refused
abbrev pub IsOfEdits : Names → List Row → List AskedEdit → Fault → Type 0
IsOfEdits names rows asked (faults.Input (inputs.Edit number fault)) = IsFirstUnfitAsked names rows asked number fault
IsOfEdits names rows asked (faults.Input (inputs.Def number)) = IsFirstOfNone names rows asked number
IsOfEdits names rows asked (faults.Means wants.Memory) = Unit {0}
IsOfEdits names rows asked _ = ⊥

-- ---- how they are found

-- The edits are all that so many asked ones mean, from the first on, of which each means as many as is counted; behind these is one that means none, or no
-- more.
pub record AreMeant (names : Names) (asked : List AskedEdit) (meant : MeantEdits) : Type 0 where
  pub within : length meant.counts.items ≤ length asked
  pub edits_are : meant.edits.items ≡ all_edits names (take (length meant.counts.items) asked)
  pub counts_are : meant.counts.items ≡ map (λ a. length (edits_of names a)) (take (length meant.counts.items) asked)
  pub known : All (λ a. edits_of names a ≢ []) (take (length meant.counts.items) asked)
  pub next : (one : AskedEdit) → slice_get asked (length meant.counts.items) ≡ Some one → edits_of names one ≡ []

-- of things that stand one after the other, so many of each owner, the one at this place is among those of the owner with this number, counted from 1
pub record IsOwner (counts : List ℕ) (place number : ℕ) : Type 0 where
  pub before : List ℕ
  pub own : ℕ
  pub after : List ℕ
  pub split : counts ≡ before ++ (own ∷ after)
  pub number_is : number ≡ length before + 1
  pub from : sum before ≤ place
  pub to : place < sum before + own
