-- Names laid over things, line by line, and their groups.
use Rattle.std.specs.Prelude.{◌≡◌, ◌≢◌, ℕ, ◌<◌, ◌≤◌, ◌⊎◌, Bool, true, false, List, [], ◌∷◌, ◌++◌, length, map, slice_get, slice_set, Option, Some, MatchOption}
use Rattle.std.specs.List.{AllByRecursion}
use Rattle.std.specs.BTreeMap as tree
use Rattle.std.specs.BTreeMap.{BTreeMap}
use Rattle.std.specs.Cmp.Lexicographic.{slice_cmp}
use Rattle.std.specs.Ordering.{nat_cmp}
use denote.Ref.{Bor}
use Rattle.boc_names.specs.declared.entry.Called.{Called}
use Rattle.boc_names.specs.declared.entry.Said.{Said}
use Rattle.boc_names.specs.declared.entry.Said.TheVariants.{Nothing, OfRow, OfCown}
use Rattle.boc_names.specs.declared.fault.NamesFault.{NamesFault}
use Rattle.boc_names.specs.declared.fault.NamesFaultKind.{NamesFaultKind}
use Rattle.boc_names.specs.declared.fault.NamesFaultKind.TheVariants as kinds
use Rattle.boc_names.specs.declared.file.TheConstants.{MOST_NAMES}
use Rattle.boc_names.specs.declared.file.Things.{Things}
use Rattle.boc_names.specs.declared.names.Names.{Names}
use Rattle.boc_names.specs.declared.overlay.Thing.{Thing}
use Rattle.boc_names.specs.Grouping.{IsGrouping}
use Rattle.boc_names.specs.Names.{Text, text_at, texts_of}
use Rattle.boc_names.specs.NamesFile.{Line, Free, NamesRow, NamesCown, Call, IsLine, AreGood, StandsFirst, BeginsWith, BeginsLong, IsCut, IsFormless}
use Rattle.boc_names.specs.NamesFile.{laid, names_at, row_calls, cown_calls, row_text, family_text, fed, spelling, lines_text, IsFaultOf}

-- ---- things

-- what things are called
abbrev pub texts_in : List Thing → List Text
texts_in things = map (λ thing. thing.text.items) things

-- what their groups are called
abbrev pub groups_in : List Thing → List Text
groups_in things = map (λ thing. thing.group.items) things

-- whether each was named
abbrev pub named_in : List Thing → List Bool
named_in things = map (λ thing. thing.is_named) things

-- none was named
abbrev pub NoneIsNamed : List Thing → Type 0
NoneIsNamed things = AllByRecursion (λ thing. thing.is_named ≡ false) things

-- the things are called so, and their groups, and none was named
pub record AreUnnamed (texts groups : List Text) (things : List Thing) : Type 0 where
  pub texts_are : texts_in things ≡ texts
  pub groups_are : groups_in things ≡ groups
  pub none : NoneIsNamed things

-- the thing with a number was not named, and is called so now
pub record CallsIn (number : ℕ) (text group : Text) (old new : List Thing) : Type 0 where
  pub unnamed : slice_get (named_in old) number ≡ Some false
  pub texts_are : texts_in new ≡ slice_set (texts_in old) number text
  pub groups_are : groups_in new ≡ slice_set (groups_in old) number group
  pub named_are : named_in new ≡ slice_set (named_in old) number true

-- the same, where it is called as was said
abbrev pub Calls : ℕ → Called → List Thing → List Thing → Type 0
Calls number called old new = CallsIn number called.text.items called.group.items old new

-- a thing is not there, or was named before
abbrev pub IsRefusal : ℕ → NamesFaultKind → List Thing → NamesFaultKind → Type 0
IsRefusal number missing things kind =
    ((kind ≡ missing) × (length things ≤ number)) ⊎ ((kind ≡ kinds.Twice) × (slice_get (named_in things) number ≡ Some true))

-- things are called as was said
abbrev pub Lays : Said → Things → Things → Type 0
Lays Nothing old new = new ≡ old
Lays (OfRow row called) old new = Calls row called old.rows.items new.rows.items × (new.cowns.items ≡ old.cowns.items)
Lays (OfCown cown called) old new = Calls cown called old.cowns.items new.cowns.items × (new.rows.items ≡ old.rows.items)

-- what was said is refused
abbrev pub StopsLay : Said → Things → NamesFaultKind → Type 0
StopsLay Nothing things kind = ⊥
StopsLay (OfRow row called) things kind = IsRefusal row kinds.NoRow things.rows.items kind
StopsLay (OfCown cown called) things kind = IsRefusal cown kinds.NoCown things.cowns.items kind

-- ---- lines

-- things are called as a line says
abbrev pub LaysLine : Line → Things → Things → Type 0
LaysLine (Free text) old new = new ≡ old
LaysLine (NamesRow row name args) old new =
    CallsIn row (row_text name args) name old.rows.items new.rows.items × (new.cowns.items ≡ old.cowns.items)
LaysLine (NamesCown cown name) old new =
    CallsIn cown name (family_text name) old.cowns.items new.cowns.items × (new.rows.items ≡ old.rows.items)

-- the line at the front of a text was taken, and things are called as it says
pub record TakesLine (text : Text) (old new : Things) (rest : Text) : Type 0 where
  pub line : Line
  pub is_line : IsLine line
  pub split : text ≡ fed (spelling line) ++ rest
  pub less : length rest < length text
  pub lays : LaysLine line old new

-- a line names a thing that was named before
abbrev pub IsNamed : Things → Line → Type 0
IsNamed things (Free text) = ⊥
IsNamed things (NamesRow row name args) = slice_get (named_in things.rows.items) row ≡ Some true
IsNamed things (NamesCown cown name) = slice_get (named_in things.cowns.items) cown ≡ Some true

-- a line names a row that isn't there
abbrev pub IsMissingRow : Things → Line → Type 0
IsMissingRow things (NamesRow row name args) = length things.rows.items ≤ row
IsMissingRow things line = ⊥

-- a line names a cown that isn't there
abbrev pub IsMissingCown : Things → Line → Type 0
IsMissingCown things (NamesCown cown name) = length things.cowns.items ≤ cown
IsMissingCown things line = ⊥

-- what is wrong with the line at the front of a text
abbrev pub IsUntaken : Text → Things → NamesFaultKind → Type 0
IsUntaken text things kinds.Cut = IsCut text
IsUntaken text things kinds.TooLong = BeginsLong text
IsUntaken text things kinds.Form = (line : Text) × (rest : Text) × BeginsWith text line rest × IsFormless line
IsUntaken text things kinds.NoRow = (line : Line) × StandsFirst text line × IsMissingRow things line
IsUntaken text things kinds.NoCown = (line : Line) × StandsFirst text line × IsMissingCown things line
IsUntaken text things kinds.Twice = (line : Line) × StandsFirst text line × IsNamed things line
IsUntaken text things kinds.Memory = Unit {0}

-- what calls say is laid over things
pub record IsLaid (calls : List Call) (old new : List Thing) : Type 0 where
  pub texts_are : texts_in new ≡ laid (λ call. call.text) calls 0 (texts_in old)
  pub groups_are : groups_in new ≡ laid (λ call. call.group) calls 0 (groups_in old)
  pub named_are : named_in new ≡ laid (λ call. true) calls 0 (named_in old)

-- what lines say is laid over rows and cowns
pub record AreLaid (lines : List Line) (old new : Things) : Type 0 where
  pub good : AreGood (length old.rows.items) (length old.cowns.items) lines
  pub rows : IsLaid (row_calls lines) old.rows.items new.rows.items
  pub cowns : IsLaid (cown_calls lines) old.cowns.items new.cowns.items

-- no row and no cown was named
abbrev pub StandsUnnamed : Things → Type 0
StandsUnnamed things = NoneIsNamed things.rows.items × NoneIsNamed things.cowns.items

-- the things are those of a base
pub record AreOf (base : Names) (things : Things) : Type 0 where
  pub rows : AreUnnamed (texts_of base.rows.items) (names_at (texts_of base.def_names.items) base.defs.items) things.rows.items
  pub cowns : AreUnnamed (texts_of base.cowns.items) (names_at (texts_of base.family_names.items) base.families.items) things.cowns.items

-- a text is that of lines, and not too long, and what they say is laid over things
pub record AreRead (text : Text) (old new : Things) : Type 0 where
  pub lines : List Line
  pub is : text ≡ lines_text lines
  pub fits : length text ≤ MOST_NAMES
  pub laid_are : AreLaid lines old new

-- a text has this fault first
abbrev pub IsUnread : Text → Things → NamesFault → Type 0
IsUnread text things fault = IsFaultOf text (length things.rows.items) (length things.cowns.items) fault.line fault.kind

-- ---- groups

-- the number of the group of a text, where it is known
abbrev pub number_seen : BTreeMap (Bor (List ℕ)) ℕ → Text → Option ℕ
number_seen seen text = tree.get_by (λ key. slice_cmp nat_cmp text key.now) seen

-- a text is none of the names
abbrev pub IsNew : List Text → Text → Type 0
IsNew names text = (i : ℕ) → i < length names → text_at names i ≢ text

-- a text is the name with a number
abbrev pub IsNameAt : List Text → Text → ℕ → Type 0
IsNameAt names text number = (number < length names) × (text_at names number ≡ text)

-- of each text the number is known that it has among the names, where it is one of them
abbrev pub KnowsNames : BTreeMap (Bor (List ℕ)) ℕ → List Text → Type 0
KnowsNames seen names = (text : Text) → MatchOption (number_seen seen text) (IsNew names text) (IsNameAt names text)

-- a text takes a number: that of its name, or the next one, and then it is the last of the names
abbrev pub TakesName : List Text → Text → ℕ → List Text → Type 0
TakesName old text number new =
    (IsNameAt old text number × (new ≡ old)) ⊎ ((number ≡ length old) × IsNew old text × (new ≡ old ++ text ∷ []))

-- ---- names of all things

-- the names are those of these rows and cowns, and of their groups
pub record AreNamesIn (things : Things) (names : Names) : Type 0 where
  pub rows : texts_of names.rows.items ≡ texts_in things.rows.items
  pub defs : IsGrouping (groups_in things.rows.items) names.defs.items (texts_of names.def_names.items)
  pub cowns : texts_of names.cowns.items ≡ texts_in things.cowns.items
  pub families : IsGrouping (groups_in things.cowns.items) names.families.items (texts_of names.family_names.items)
