-- Which cowns kinds reach, by one of their arguments.
use Rattle.std.specs.Prelude.{ℕ, zero, suc, ◌+◌, Bool, true, if◌then◌else◌, ◌&&◌, ◌||◌, not, List, [], ◌∷◌, Option, Some, None, ℤ, pos, negsuc, map}
use Rattle.std.specs.Prelude.{slice_get, slice_index_or, slice_set, IsTrue, ◌≡◌}
use Rattle.std.specs.List.{list_any}
use Rattle.boc_program.specs.declared.body.Body.{Body}
use Rattle.boc_program.specs.declared.program.Program.{Program}
use Rattle.boc_program.specs.Resolved.{every}
use Rattle.boc_footprints.specs.Tables.{reaches}
use Rattle.boc_sharp_footprints.specs.Known.{known_if, known_at_start, may_name, may_lead}
use Rattle.boc_sharp_footprints.specs.Followed.{KnownTest, some_when}

-- a set of cowns, told by a mark of each of the first; those without a mark are in it
abbrev pub is_in : List Bool → ℕ → Bool
is_in marks cown = slice_index_or marks cown true

-- the place of an argument, and for each of its first values a set of cowns
pub record ByValue : Type 0 where
  pub place : ℕ
  pub sets : List (List Bool)

-- which kinds reach which cowns, and for kinds sets by the value of an argument
pub record Sharp : Type 0 where
  pub by_kind : List (List Bool)
  pub by_value : List ByValue

abbrev pub is_in_there : Option (List Bool) → ℕ → Bool
is_in_there None cown = true
is_in_there (Some marks) cown = is_in marks cown

-- where an argument has this value, if that is known, the sets allow this cown
abbrev pub allows : List (List Bool) → Option ℤ → ℕ → Bool
allows sets None cown = true
allows sets (Some (pos n)) cown = is_in_there (slice_get sets n) cown
allows sets (Some (negsuc n)) cown = true

abbrev pub allows_there : Option ByValue → Option ℤ → ℕ → Bool
allows_there None value cown = true
allows_there (Some kind) value cown = allows kind.sets value cown

abbrev pub place_of : Option ByValue → ℕ
place_of None = 0
place_of (Some kind) = kind.place

-- the place of the argument by which a kind has sets
abbrev pub place_at : Sharp → ℕ → ℕ
place_at table kind = place_of (slice_get table.by_value kind)

-- where that argument has this value, if that is known, the kind reaches the cown
abbrev pub reaches_with : Sharp → ℕ → Option ℤ → ℕ → Bool
reaches_with table kind value cown = reaches table.by_kind kind cown && allows_there (slice_get table.by_value kind) value cown

-- a behaviour of this kind with these arguments reaches the cown
abbrev pub reaches_by : Sharp → ℕ → List ℤ → ℕ → Bool
reaches_by table kind args cown = reaches_with table kind (slice_get args (place_at table kind)) cown

-- a `when` may lead to the cown: it may name it, or what it spawns may reach it
abbrev pub leads_to : Sharp → ℕ → KnownTest
leads_to table cown kind args refs a =
    every (map (may_lead a) refs)
    && (list_any (may_name cown a) refs || reaches_with table kind (known_if (slice_get args (place_at table kind)) a) cown)

-- a body whose argument at this place has this value may lead to the cown
abbrev pub body_leads : Sharp → Body → ℕ → ℕ → ℕ → Bool
body_leads table body place value cown = some_when (leads_to table cown) body.block (known_at_start body.slots place value)

-- the set of a value has all cowns to which the body may lead
abbrev pub IsClosedAt : Sharp → Body → ℕ → ℕ → List Bool → Type 0
IsClosedAt table body place value set = (cown : ℕ) → IsTrue (body_leads table body place value cown) → IsTrue (is_in set cown)

-- so do the sets of all values
abbrev pub IsClosedKind : Sharp → Body → ByValue → Type 0
IsClosedKind table body kind = (value : ℕ) (set : List Bool) → slice_get kind.sets value ≡ Some set → IsClosedAt table body kind.place value set

-- so do those of all kinds
abbrev pub IsClosed : Program → Sharp → Type 0
IsClosed p table = (kind : ℕ) (one : ByValue) (body : Body) → slice_get table.by_value kind ≡ Some one → slice_get p.bodies kind ≡ Some body
    → IsClosedKind table body one

-- the set, whose first mark is this cown's, has all cowns of another
abbrev pub holds_all : List Bool → ℕ → List Bool → Bool
holds_all other cown [] = true
holds_all other cown (m ∷ marks) = (m || not (is_in other cown)) && holds_all other (cown + 1) marks

-- the marks after the first ones that pass a test were set
abbrev pub marked_up : (ℕ → Bool) → ℕ → List Bool → List Bool
marked_up test zero marks = marks
marked_up test (suc k) marks = if test k then slice_set (marked_up test k marks) k true else marked_up test k marks
