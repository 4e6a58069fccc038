-- A test that a set of places of live rows is closed. The set is told by a mark of each place.
use Rattle.std.specs.Prelude.{ℕ, ◌+◌, nat_eq, not, Bool, true, false, ◌&&◌, ◌||◌, if◌then◌else◌, List, [], ◌∷◌, ◌++◌, length}
use Rattle.std.specs.List.{list_any}
use Rattle.boc_runs.specs.Serial.{Behaviour}
use Rattle.boc_front_rows.specs.Lists.{list_at}
use Rattle.boc_front_rows.specs.Rows.{Plain}
use Rattle.boc_footprints.specs.Spreading.{is_marked}
use Rattle.boc_sharp_footprints.specs.Tables.{Sharp, reaches_by}

-- which kinds reach which cowns, by their arguments
abbrev pub Table : Type 0
Table = Sharp

-- a cown of a behaviour, or one that it reaches
abbrev pub has_cown : Table → Behaviour → ℕ → Bool
has_cown table far c = list_any (λ d. nat_eq d c) far.cowns || reaches_by table far.kind far.args c

-- one of these cowns is in the footprint of one of these behaviours
abbrev pub meets : Table → List ℕ → List Behaviour → Bool
meets table cowns [] = false
meets table cowns (far ∷ others) = list_any (has_cown table far) cowns || meets table cowns others

-- the cowns of the first of these behaviours, if there is one
abbrev pub first_cowns : List Behaviour → List ℕ
first_cowns [] = []
first_cowns (wish ∷ others) = wish.cowns

-- no row is before this one
abbrev pub is_free : Plain → Bool
is_free r = nat_eq (length r.before) 0

-- The rows at places without a mark have no wish whose footprint has one of these cowns. The first row has this place.
abbrev pub are_apart : Table → List (List Behaviour) → List Bool → List ℕ → ℕ → List Plain → Bool
are_apart table lists marks cowns place [] = true
are_apart table lists marks cowns place (r ∷ rows) =
    (is_marked marks place || not (meets table cowns (list_at lists r.wishes))) && are_apart table lists marks cowns (place + 1) rows

-- Where a row is free, the cowns of its next behaviour are apart from all rows without a mark, else a place before it has one.
abbrev pub may_stand : Table → List (List Behaviour) → List Bool → List Plain → Plain → Bool
may_stand table lists marks all r =
    if is_free r then are_apart table lists marks (first_cowns (list_at lists r.wishes)) 0 all else list_any (is_marked marks) r.before

-- so for each row with a mark; the first of these rows has this place
abbrev pub all_may_stand : Table → List (List Behaviour) → List Bool → List Plain → ℕ → List Plain → Bool
all_may_stand table lists marks all place [] = true
all_may_stand table lists marks all place (r ∷ rows) =
    (not (is_marked marks place) || may_stand table lists marks all r) && all_may_stand table lists marks all (place + 1) rows

-- the places of the free rows that have a mark; the first row has this place
abbrev pub free_marked : List Bool → ℕ → List Plain → List ℕ
free_marked marks place [] = []
free_marked marks place (r ∷ rows) = (if is_marked marks place && is_free r then place ∷ [] else []) ++ free_marked marks (place + 1) rows
