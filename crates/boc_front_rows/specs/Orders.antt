-- Which rows stay, and where.
use Rattle.std.specs.Prelude.{◌≡◌, ℕ, ◌+◌, Bool, true, false, if◌then◌else◌, List, [], ◌∷◌, ◌++◌, length, map, replicate, Option, Some, None, filter_map}
use Rattle.std.specs.Prelude.{slice_get, slice_index_or, slice_set, IsPermutation}
use Rattle.boc_runs.specs.Serial.{Behaviour}
use Rattle.boc_front_rows.specs.Lists.{list_at}
use Rattle.boc_front_rows.specs.Rows.{Plain}

-- there is no wish in the list
abbrev pub is_nil : List Behaviour → Bool
is_nil [] = true
is_nil (b ∷ bs) = false

-- which rows have no wish
abbrev pub done_of : List (List Behaviour) → List Plain → List Bool
done_of lists rows = map (λ r. is_nil (list_at lists r.wishes)) rows

-- the places, from n on, of those that have one
abbrev pub kept_from : ℕ → List Bool → List ℕ
kept_from n [] = []
kept_from n (done ∷ rest) = (if done then [] else n ∷ []) ++ kept_from (n + 1) rest

-- a table in which each of these places has its new one, from n on
abbrev pub placed : ℕ → List (Option ℕ) → List ℕ → List (Option ℕ)
placed n table [] = table
placed n table (place ∷ places) = placed (n + 1) (slice_set table place (Some n)) places

-- for each of so many rows its new place, if it stays
abbrev pub places_of : ℕ → List ℕ → List (Option ℕ)
places_of many kept = placed 0 (replicate many None) kept

-- the new places of those that stay
abbrev pub moved : List (Option ℕ) → List ℕ → List ℕ
moved places before = filter_map (λ place. slice_index_or places place None) before

-- a row that stays, and the new places of those before it in some order
pub record IsMoved (places : List (Option ℕ)) (old new : Plain) : Type 0 where
  pub wishes : new.wishes ≡ old.wishes
  pub before : IsPermutation (moved places old.before) new.before
  pub claims : new.claims ≡ old.claims

-- the rows that stay, in this order
pub record AreMoved (places : List (Option ℕ)) (kept : List ℕ) (rows new : List Plain) : Type 0 where
  pub many : length new ≡ length kept
  pub each : (k i : ℕ) (r s : Plain) → slice_get kept k ≡ Some i → slice_get rows i ≡ Some r → slice_get new k ≡ Some s → IsMoved places r s
