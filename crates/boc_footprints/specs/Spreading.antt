-- Which kinds reach a cown, found round by round.
use Rattle.std.specs.Prelude.{◌+◌, ◌<◌, ℕ, zero, suc, Bool, true, false, if◌then◌else◌, List, [], ◌∷◌, ◌++◌, IsTrue, slice_index_or, slice_set}
use Rattle.std.specs.List.{Contains, count_by}
use Rattle.boc_program.specs.declared.body.Body.{Body}
use Rattle.boc_program.specs.Syntax.{Code}
use Rattle.boc_footprints.specs.Whens.{spawns}
use Rattle.boc_footprints.specs.declared.spreading.Spawn.{Spawn}

-- a kind is marked
abbrev pub is_marked : List Bool → ℕ → Bool
is_marked marks kind = slice_index_or marks kind false

-- a kind leads to a marked one: it is marked, or it spawns a kind that leads to a marked one
pub data Leads (all : List Spawn) (marks : List Bool) : ℕ → Type 0 where
  Marked : (kind : ℕ) → IsTrue (is_marked marks kind) → Leads all marks kind
  Farther : (kind other : ℕ) → Contains all (record { kind = kind; other = other }) → Leads all marks other → Leads all marks kind

-- the marks after a kind is marked too if it spawns a marked one
abbrev pub after_spawn : List Bool → Spawn → List Bool
after_spawn marks s = if is_marked marks s.other then slice_set marks s.kind true else marks

-- the same of several, one after another
abbrev pub after_spawns : List Bool → List Spawn → List Bool
after_spawns marks [] = marks
after_spawns marks (s ∷ all) = after_spawns (after_spawn marks s) all

-- how many kinds are marked
abbrev pub marked : List Bool → ℕ
marked marks = count_by (λ m. m) marks

-- both kinds are there
abbrev pub IsBelow : ℕ → Spawn → Type 0
IsBelow kinds s = (s.kind < kinds) × (s.other < kinds)

-- the kinds below a number that statements of a kind spawn
abbrev pub spawned_below : ℕ → Code → ℕ → List Spawn
spawned_below kind code zero = []
spawned_below kind code (suc n) = spawned_below kind code n ++ (if spawns n code then record { kind = kind; other = n } ∷ [] else [])

-- the kinds below a number that bodies spawn, whose kinds are those from `first` on
abbrev pub spawned_by : ℕ → ℕ → List Body → List Spawn
spawned_by kinds first [] = []
spawned_by kinds first (b ∷ bodies) = spawned_below first b.block kinds ++ spawned_by kinds (first + 1) bodies
