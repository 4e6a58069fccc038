-- Which kinds reach which cowns, as a table.
use Rattle.std.specs.Prelude.{ℕ, Bool, false, List, Option, Some, None, map, slice_get}
use Rattle.boc_program.specs.declared.body.Body.{Body}
use Rattle.boc_footprints.specs.Whens.{names}
use Rattle.boc_footprints.specs.Spreading.{is_marked}

-- a kind is marked, if marks are there
abbrev pub is_marked_there : Option (List Bool) → ℕ → Bool
is_marked_there None kind = false
is_marked_there (Some marks) kind = is_marked marks kind

-- by a table, which has for each cown a mark of each kind, the kind reaches the cown
abbrev pub reaches : List (List Bool) → ℕ → ℕ → Bool
reaches table kind cown = is_marked_there (slice_get table cown) kind

-- a mark of each kind whose body names a cown
abbrev pub naming : ℕ → List Body → List Bool
naming cown bodies = map (λ b. names cown b.block) bodies
