-- The test of a set of places tried on small fronts.
use Rattle.std.proofs.Common.{◌≡◌, ℕ, List, [], ◌∷◌, refl, Bool, true, false}
use Rattle.boc_runs.specs.Serial.{Behaviour}
use Rattle.boc_front_rows.specs.Rows.{Plain}
use Rattle.boc_choices.specs.Holding.{Table, meets, all_may_stand, free_marked}

abbrev wish : ℕ → List ℕ → Behaviour
wish kind cowns = record { kind = kind; args = []; cowns = cowns }

-- kind 2 reaches cown 1, and no other kind reaches a cown
abbrev table : Table
table = record { by_kind = (false ∷ false ∷ false ∷ []) ∷ (false ∷ false ∷ true ∷ []) ∷ []; by_value = [] }

-- list 1 asks for kind 1 over cown 0, list 2 for kind 1 over cown 2 and then kind 2 over cown 3, list 3 for kind 1 over cown 1
abbrev lists : List (List Behaviour)
lists = [] ∷ (wish 1 (0 ∷ []) ∷ []) ∷ (wish 1 (2 ∷ []) ∷ wish 2 (3 ∷ []) ∷ []) ∷ (wish 1 (1 ∷ []) ∷ []) ∷ []

abbrev row : ℕ → List ℕ → Plain
row wishes before = record { wishes = wishes; before = before; claims = [] }

-- three free rows, and one that waits for the first two
abbrev rows : List Plain
rows = row 1 [] ∷ row 2 [] ∷ row 3 [] ∷ row 1 (0 ∷ 1 ∷ []) ∷ []

abbrev holds : List Bool → Bool
holds marks = all_may_stand table lists marks rows 0 rows

-- the last wish of list 2 is of a kind that reaches cown 1, and its own cown is 3
reached : meets table (1 ∷ []) (wish 1 (2 ∷ []) ∷ wish 2 (3 ∷ []) ∷ []) ≡ true
reached = refl

own : meets table (5 ∷ 3 ∷ []) (wish 1 (2 ∷ []) ∷ wish 2 (3 ∷ []) ∷ []) ≡ true
own = refl

neither : meets table (0 ∷ 5 ∷ []) (wish 1 (2 ∷ []) ∷ wish 2 (3 ∷ []) ∷ []) ≡ false
neither = refl

-- the first row alone: the last one asks for cown 0 too
first_alone : holds (true ∷ false ∷ false ∷ false ∷ []) ≡ false
first_alone = refl

-- with the last one, which waits for the first
first_and_last : holds (true ∷ false ∷ false ∷ true ∷ []) ≡ true
first_and_last = refl

-- the last one without a row that it waits for
last_alone : holds (false ∷ false ∷ false ∷ true ∷ []) ≡ false
last_alone = refl

-- cown 2 is asked for by the second row alone
second_alone : holds (false ∷ true ∷ false ∷ false ∷ []) ≡ true
second_alone = refl

-- cown 1 is reached by the second row
third_alone : holds (false ∷ false ∷ true ∷ false ∷ []) ≡ false
third_alone = refl

third_and_second : holds (false ∷ true ∷ true ∷ false ∷ []) ≡ true
third_and_second = refl

-- of marked places the free ones are tried; marks that are left out are none
free_ones : free_marked (true ∷ false ∷ false ∷ true ∷ []) 0 rows ≡ 0 ∷ []
free_ones = refl

no_marks : free_marked [] 0 rows ≡ []
no_marks = refl
