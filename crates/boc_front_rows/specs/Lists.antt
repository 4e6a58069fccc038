-- Lists of behaviours by their numbers.
use Rattle.std.specs.Prelude.{◌≡◌, ◌⊎◌, ℕ, List, [], ◌∷◌, ◌++◌, slice_index_or}
use Rattle.boc_runs.specs.Serial.{Behaviour}
use Rattle.boc_front_rows.specs.declared.wish_lists.Wished.{Wished}

-- the behaviour
abbrev pub wished : Wished → Behaviour
wished w = record { kind = w.kind; args = w.args.items; cowns = w.cowns.items }

-- the list of this number
abbrev pub list_at : List (List Behaviour) → ℕ → List Behaviour
list_at lists n = slice_index_or lists n []

-- the list was there, or was added after the others
abbrev pub Adds : List Behaviour → List (List Behaviour) → List (List Behaviour) → Type 0
Adds list old new = (new ≡ old) ⊎ (new ≡ old ++ list ∷ [])
