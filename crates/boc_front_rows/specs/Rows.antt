-- Live rows of fronts, without what of their lists is memory.
use Rattle.std.specs.Prelude.{◌≡◌, ℕ, ◌<◌, List, [], map, length, All, Some, slice_get, slice_index_or}
use Rattle.boc_runs.specs.Serial.{Behaviour}
use Rattle.boc_front_rows.specs.declared.row.LiveRow.{LiveRow}

-- the number of the list of its wishes, the places of the live rows before it, and the cowns that it claims
pub record Plain : Type 0 where
  pub wishes : ℕ
  pub before : List ℕ
  pub claims : List ℕ

abbrev pub plain : LiveRow → Plain
plain r = record { wishes = r.wishes; before = r.before.items; claims = r.claims.items }

abbrev pub plains : List LiveRow → List Plain
plains rows = map plain rows

-- what is read where there is no row
abbrev pub no_row : Plain
no_row = record { wishes = 0; before = []; claims = [] }

abbrev pub row_at : List Plain → ℕ → Plain
row_at rows i = slice_index_or rows i no_row

-- the list of each row's wishes is there
abbrev pub AreIn : List (List Behaviour) → List Plain → Type 0
AreIn lists rows = (i : ℕ) (r : Plain) → slice_get rows i ≡ Some r → r.wishes < length lists

-- the places before each row are below this number
abbrev pub AreLow : ℕ → List Plain → Type 0
AreLow n rows = (i : ℕ) (r : Plain) → slice_get rows i ≡ Some r → All (λ place. place < n) r.before
