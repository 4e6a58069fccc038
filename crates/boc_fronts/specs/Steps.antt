-- One spawn more of a front, and its live rows arranged anew.
use Rattle.std.specs.Prelude.{◌≡◌, ◌≢◌, ◌↔◌, ◌⊎◌, ℕ, ◌+◌, ◌<◌, List, [], ◌∷◌, length, map, Some, slice_get}
use Rattle.std.specs.List.{Contains}
use Rattle.boc_program.specs.declared.program.Program.{Program}
use Rattle.boc_program.specs.Meaning.{Meaning}
use Rattle.boc_program.specs.Programs.{initial_values}
use Rattle.boc_runs.specs.Serial.{Behaviour, behaviour_of, inputs_of, after_outputs, meaning_if}
use Rattle.boc_runs.specs.machine.Queues.{times}
use Rattle.boc_fronts.specs.Fronts.{LiveRow, Front}

-- the live row at a place claims one of these cowns
pub record ClaimsHere (f : Front) (cowns : List ℕ) (j : ℕ) : Type 0 where
  pub row : LiveRow
  pub is : slice_get f.live j ≡ Some row
  pub cown : ℕ
  pub among : 0 < times cown cowns
  pub claims : Contains row.claims cown

-- the wishes of a live row after one at place i has made its first
pub record WishesAfter (i : ℕ) (rest : List Behaviour) (j : ℕ) (old new : LiveRow) : Type 0 where
  pub parent : j ≡ i → new.wishes ≡ rest
  pub other : j ≢ i → new.wishes ≡ old.wishes

-- The row at a place makes its next spawn: its first wish goes, and the body runs on the values. The new row comes last, after those that claim one of its
-- cowns, and claims its cowns; those before it claim them too.
pub record IsStep (p : Program) (f : Front) (i : ℕ) (g : Front) : Type 0 where
  pub row : LiveRow
  pub is : slice_get f.live i ≡ Some row
  pub wish : Behaviour
  pub rest : List Behaviour
  pub wishes_are : row.wishes ≡ wish ∷ rest
  pub means : Meaning
  pub meant : meaning_if (slice_get p.bodies wish.kind) wish.args (inputs_of wish.cowns f.values) ≡ means
  pub values_are : g.values ≡ after_outputs f.values wish.cowns means.outputs
  pub many : length g.live ≡ length f.live + 1
  pub new : LiveRow
  pub new_is : slice_get g.live (length f.live) ≡ Some new
  pub new_wishes : new.wishes ≡ map behaviour_of means.wishes
  pub new_before : (j : ℕ) → (Contains new.before j ↔ ClaimsHere f wish.cowns j)
  pub new_claims : (c : ℕ) → (Contains new.claims c ↔ (0 < times c wish.cowns))
  pub wishes : (j : ℕ) (l m : LiveRow) → slice_get f.live j ≡ Some l → slice_get g.live j ≡ Some m → WishesAfter i rest j l m
  pub before : (j : ℕ) (l m : LiveRow) → slice_get f.live j ≡ Some l → slice_get g.live j ≡ Some m → m.before ≡ l.before
  pub claims : (j c : ℕ) (l m : LiveRow) → slice_get f.live j ≡ Some l → slice_get g.live j ≡ Some m
      → (Contains m.claims c ↔ (Contains l.claims c ⊎ ((0 < times c wish.cowns) × Contains new.before j)))

-- a place stands in the order, and its row is among these
abbrev pub IsAt : List ℕ → List ℕ → ℕ → Type 0
IsAt order places j = (i : ℕ) × (slice_get order j ≡ Some i) × Contains places i

-- The live rows in another order, those without wishes left out: the row at each place of the one front is that at the place of the other that the order names.
pub record IsArranged (f : Front) (order : List ℕ) (g : Front) : Type 0 where
  pub values_are : g.values ≡ f.values
  pub many : length g.live ≡ length order
  pub there : (k i : ℕ) → slice_get order k ≡ Some i → i < length f.live
  pub once : (k j i : ℕ) → slice_get order k ≡ Some i → slice_get order j ≡ Some i → k ≡ j
  pub kept : (i : ℕ) (m : LiveRow) → slice_get f.live i ≡ Some m → m.wishes ≢ [] → (k : ℕ) × (slice_get order k ≡ Some i)
  pub some : (k : ℕ) (l : LiveRow) → slice_get g.live k ≡ Some l → l.wishes ≢ []
  pub wishes : (k i : ℕ) (m l : LiveRow) → slice_get order k ≡ Some i → slice_get f.live i ≡ Some m → slice_get g.live k ≡ Some l
      → l.wishes ≡ m.wishes
  pub before : (k i j : ℕ) (m l : LiveRow) → slice_get order k ≡ Some i → slice_get f.live i ≡ Some m → slice_get g.live k ≡ Some l
      → (Contains l.before j ↔ IsAt order m.before j)
  pub claims : (k i : ℕ) (m l : LiveRow) → slice_get order k ≡ Some i → slice_get f.live i ≡ Some m → slice_get g.live k ≡ Some l
      → l.claims ≡ m.claims

-- The front of main alone: it is live, though it may have no wish, and claims no cown.
pub record IsOpening (p : Program) (f : Front) : Type 0 where
  pub values_are : f.values ≡ initial_values p.cowns
  pub means : Meaning
  pub meant : meaning_if (slice_get p.bodies 0) [] [] ≡ means
  pub main : LiveRow
  pub live_are : f.live ≡ main ∷ []
  pub wishes : main.wishes ≡ map behaviour_of means.wishes
  pub first : main.before ≡ []
  pub unclaimed : main.claims ≡ []
