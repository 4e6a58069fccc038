-- The lists of the cowns: who asked for a cown before whom, and what the lists keep.
use Rattle.std.specs.Prelude.{◌≡◌, ℕ, ◌+◌, ◌<◌, ◌≤◌, Bool, true, false, ◌&&◌, if◌then◌else◌, nat_eq, nat_lt, List, [], ◌∷◌, ◌++◌, slice_get, Option, Some, None}
use Rattle.std.specs.List.{list_all}
use Rattle.boc_runs.specs.machine.Stages.{OpenBehaviour, cowns_of, standing, settled, flagged, row_of, waits, holds}

-- how often a number stands in a list
abbrev pub times : ℕ → List ℕ → ℕ
times n [] = 0
times n (m ∷ ms) = (if nat_eq m n then 1 else 0) + times n ms

-- does a number stand first in a list?
abbrev pub is_first : ℕ → List ℕ → Bool
is_first n [] = false
is_first n (m ∷ ms) = nat_eq m n

-- is the request of who at cown c granted: settled, and first in the list of c?
abbrev pub is_granted : (ℕ → Option OpenBehaviour) → (ℕ → List ℕ) → ℕ → ℕ → Bool
is_granted at queue who c = nat_lt 0 (times c (settled (at who))) && is_first who (queue c)

-- are all its requests granted?
abbrev pub all_granted : (ℕ → Option OpenBehaviour) → (ℕ → List ℕ) → ℕ → Bool
all_granted at queue who = list_all (λ c. is_granted at queue who c) (cowns_of (at who))

-- of the rows of two behaviours in one list, from the front: the first is the smaller, and is there if the second is
abbrev pub InOrder : Option ℕ → Option ℕ → Type 0
InOrder (Some row) (Some later) = row < later
InOrder None (Some later) = ⊥
InOrder _ None = Unit {0}

-- What the lists keep. `at` gives the open behaviour of a number, if there is one; `queue` gives the list of a cown,
-- the numbers of those that asked for it, in order of exchange.
pub record Lawful (at : ℕ → Option OpenBehaviour) (queue : ℕ → List ℕ) : Type 0 where
  -- a behaviour stands once in the list of each cown that it has exchanged and not released, and nowhere else
  pub stands : (who c : ℕ) → times who (queue c) ≡ times c (standing (at who))
  pub once : (who c : ℕ) → times c (cowns_of (at who)) ≤ 1
  -- a settled request that isn't first has a flagged one right before it
  pub linked : (c : ℕ) (ahead behind : List ℕ) (x y : ℕ) → queue c ≡ ahead ++ (x ∷ (y ∷ behind))
      → 0 < times c (settled (at y)) → 0 < times c (flagged (at x))
  -- rows rise along a list, and no recorded behaviour stands behind an unrecorded one
  pub ordered : (c : ℕ) (ahead mid behind : List ℕ) (x y : ℕ) → queue c ≡ ahead ++ (x ∷ (mid ++ (y ∷ behind)))
      → InOrder (row_of (at x)) (row_of (at y))
  -- a ready, running or leaving behaviour is first in all its lists
  pub first : (who c : ℕ) → holds (at who) ≡ true → 0 < times c (standing (at who)) → slice_get (queue c) 0 ≡ Some who
  -- a waiting behaviour has a request that isn't granted
  pub waiting : (who : ℕ) → waits (at who) ≡ true → all_granted at queue who ≡ false
