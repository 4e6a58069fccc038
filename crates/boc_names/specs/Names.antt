-- What the rows and the cowns of a run are called.
use Rattle.std.specs.Prelude.{◌≡◌, ℕ, zero, suc, ◌+◌, ◌-◌, ◌==◌, Bool, false, ◌&&◌, cond, nat_lt, List, [], ◌∷◌, ◌++◌, length, map, replicate}
use Rattle.std.specs.Prelude.{Option, Some, None, unwrap_or, slice_get, slice_index, Vec, ℤ, codes, decimal}
use Rattle.std.specs.List.{join_by}
use Rattle.std.specs.Global.{Global}
use Rattle.std.specs.Fmt.{signed_decimal}
use Rattle.boc_program.specs.declared.cown.Cown.{Cown}
use Rattle.boc_program.specs.declared.program.Program.{Program}
use Rattle.boc_program.specs.Sizes.{members}
use Rattle.boc_runs.specs.Run.{Member}
use Rattle.boc_eval.specs.declared.instance.Instance.{Instance}
use Rattle.boc_names.specs.declared.held.Place.{Place}
use Rattle.boc_names.specs.declared.names.Names.{Names}
use Rattle.boc_names.specs.Stretches.{stretches}

-- a text, by its bytes
abbrev pub Text : Type 0
Text = List ℕ

-- the texts of some vectors
abbrev pub texts_of : List (Vec ℕ Global) → List Text
texts_of texts = map (λ text. text.items) texts

-- the text at a place, and none where there is nothing
abbrev pub text_at : List Text → ℕ → Text
text_at texts place = unwrap_or (slice_get texts place) []

-- a word and a number after it
abbrev pub numbered : Text → ℕ → Text
numbered word number = word ++ decimal number

-- ---- cowns

-- the name of a member of an array
abbrev pub member_name : Text → ℕ → Text
member_name name i = name ++ codes "[" ++ decimal i ++ codes "]"

-- the names of so many members of an array, from the i-th on
abbrev pub member_names : Text → ℕ → ℕ → List Text
member_names name i zero = []
member_names name i (suc n) = member_name name i ∷ member_names name (suc i) n

-- the names of the cowns of a declaration: a single one, or the members of an array
abbrev pub declared_names : Text → Option ℕ → List Text
declared_names name None = name ∷ []
declared_names name (Some n) = member_names name 0 n

-- the names of all cowns, in the order of their numbers
abbrev pub cown_names : List Cown → List Text
cown_names [] = []
cown_names (c ∷ cs) = declared_names c.name c.size ++ cown_names cs

-- the name of all cowns of a declaration together: a single one's own, or the array's with a star
abbrev pub family_name : Text → Option ℕ → Text
family_name name None = name
family_name name (Some n) = name ++ codes "[*]"

-- the names of the declarations, in their order
abbrev pub family_names : List Cown → List Text
family_names cowns = map (λ c. family_name c.name c.size) cowns

-- for each cown the number of its declaration, of which the first has this one
abbrev pub family_numbers : ℕ → List Cown → List ℕ
family_numbers k [] = []
family_numbers k (c ∷ cs) = replicate (members c.size) k ++ family_numbers (suc k) cs

-- where the members of a declaration with this number stand, so many of them, from the i-th on
abbrev pub member_places : ℕ → ℕ → ℕ → List Place
member_places k i zero = []
member_places k i (suc n) = record { declaration = k; member = i } ∷ member_places k (suc i) n

-- where all cowns stand, in the order of their numbers; the first declaration has this number
abbrev pub places_from : ℕ → List Cown → List Place
places_from k [] = []
places_from k (c ∷ cs) = member_places k 0 (members c.size) ++ places_from (suc k) cs

-- the cowns of a program by their names: what each is called, where each stands, and the names in the declarations
pub record NamedCowns : Type 0 where
  pub names : List Text
  pub places : List Place
  pub declared : List Text

-- the cowns that a program declares
abbrev pub named_cowns : List Cown → NamedCowns
named_cowns cowns = record { names = cown_names cowns; places = places_from 0 cowns; declared = map (λ c. c.name) cowns }

-- ---- behaviours

-- arguments after others
abbrev pub more_args : List ℤ → Text
more_args [] = []
more_args (a ∷ args) = codes ", " ++ signed_decimal a ++ more_args args

-- the arguments of a behaviour
abbrev pub args_text : List ℤ → Text
args_text [] = []
args_text (a ∷ args) = signed_decimal a ++ more_args args

-- of two cowns the second is the next member of the array that the first is a member of: they stand in one declaration, and its number there is one more
abbrev pub is_next : Option Place → Option Place → Bool
is_next (Some p) (Some q) = p.declaration == q.declaration && p.member + 1 == q.member
is_next p q = false

-- a cown goes on from another where it is the next member of the same array
abbrev pub goes_on : NamedCowns → ℕ → ℕ → Bool
goes_on cowns c d = is_next (slice_get cowns.places c) (slice_get cowns.places d)

-- the members of an array from the first of some numbers to the last, both included
abbrev pub range_text : Text → ℕ → ℕ → Text
range_text array first last = array ++ codes "[" ++ decimal first ++ codes ".." ++ decimal last ++ codes "]"

-- the members of an array from one place to another
abbrev pub between : List Text → Option Place → Option Place → Text
between declared (Some p) (Some q) = range_text (text_at declared p.declaration) p.member q.member
between declared p q = []

-- texts one after the other, with commas between them
abbrev pub separated : List Text → Text
separated texts = join_by (λ text. text) (codes ", ") texts

-- cowns that follow each other in one array: three or more by the first and the last of their numbers there, and fewer each by its name
abbrev pub stretch_text : NamedCowns → List ℕ → Text
stretch_text cowns stretch =
    cond (nat_lt (length stretch) 3)
    (separated (map (text_at cowns.names) stretch))
    (between cowns.declared (slice_get cowns.places (slice_index stretch 0)) (slice_get cowns.places (slice_index stretch (length stretch - 1))))

-- the cowns of a behaviour, those that follow each other in one array together
abbrev pub held_text : NamedCowns → List ℕ → Text
held_text cowns [] = []
held_text cowns (c ∷ held) = codes " " ++ separated (map (stretch_text cowns) (stretches (goes_on cowns) (c ∷ held)))

-- a behaviour of a def: the def's name, the arguments, and the cowns in the order of the parameters
abbrev pub call_text : Text → NamedCowns → List ℤ → List ℕ → Text
call_text def cowns args held = def ++ codes "(" ++ args_text args ++ codes ";" ++ held_text cowns held ++ codes ")"

-- a behaviour: main, or one of a def
abbrev pub behaviour_text : List Text → NamedCowns → ℕ → List ℤ → List ℕ → Text
behaviour_text defs cowns zero args held = codes "main"
behaviour_text defs cowns (suc kind) args held = call_text (text_at defs (suc kind)) cowns args held

-- the behaviour that a row of a run is
abbrev pub member_text : List Text → NamedCowns → Member → Text
member_text defs cowns m = behaviour_text defs cowns m.behaviour.kind m.behaviour.args m.behaviour.cowns

-- the same of a row as it is kept
abbrev pub instance_text : List Text → NamedCowns → Instance → Text
instance_text defs cowns i = behaviour_text defs cowns i.kind i.args.items i.cowns.items

-- ---- the names of a run

-- The names are those of the rows of a run, which stands so far with these members, of a program with these defs: main's is the number 0, and
-- those of the others follow in the order of the text.
pub record AreNamesOf (program : Program) (called : List Text) (run : List Member) (names : Names) : Type 0 where
  pub defs : names.defs.items ≡ map (λ m. m.behaviour.kind) run
  pub def_names : texts_of names.def_names.items ≡ codes "main" ∷ called
  pub rows : texts_of names.rows.items ≡ map (member_text (codes "main" ∷ called) (named_cowns program.cowns)) run
  pub cowns : texts_of names.cowns.items ≡ cown_names program.cowns
  pub families : names.families.items ≡ family_numbers 0 program.cowns
  pub family_names : texts_of names.family_names.items ≡ family_names program.cowns

-- a word with the numbers of so many things, from this one on
abbrev pub numbered_from : Text → ℕ → ℕ → List Text
numbered_from word i zero = []
numbered_from word i (suc n) = numbered word i ∷ numbered_from word (suc i) n

-- the numbers of so many things, from this one on
abbrev pub numbers_from : ℕ → ℕ → List ℕ
numbers_from i zero = []
numbers_from i (suc n) = i ∷ numbers_from (suc i) n

-- so many rows and cowns are called by their numbers, each row for itself, and each cown for itself
pub record AreNumbers (row_count cown_count : ℕ) (names : Names) : Type 0 where
  pub defs : names.defs.items ≡ numbers_from 0 row_count
  pub def_names : texts_of names.def_names.items ≡ numbered_from (codes "row ") 0 row_count
  pub rows : texts_of names.rows.items ≡ numbered_from (codes "row ") 0 row_count
  pub cowns : texts_of names.cowns.items ≡ numbered_from (codes "cown ") 0 cown_count
  pub families : names.families.items ≡ numbers_from 0 cown_count
  pub family_names : texts_of names.family_names.items ≡ numbered_from (codes "cown ") 0 cown_count

-- two call everything the same
pub record CallTheSame (names other : Names) : Type 0 where
  pub defs : names.defs.items ≡ other.defs.items
  pub def_names : texts_of names.def_names.items ≡ texts_of other.def_names.items
  pub rows : texts_of names.rows.items ≡ texts_of other.rows.items
  pub cowns : texts_of names.cowns.items ≡ texts_of other.cowns.items
  pub families : names.families.items ≡ other.families.items
  pub family_names : texts_of names.family_names.items ≡ texts_of other.family_names.items
