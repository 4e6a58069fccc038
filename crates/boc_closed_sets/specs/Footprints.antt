-- Cowns that a behaviour, and those that it leads to, can have.
use Rattle.std.specs.Prelude.{◌⊎◌, ℕ, ◌<◌, ℤ, List}
use Rattle.std.specs.List.{Contains}
use Rattle.boc_program.specs.declared.program.Program.{Program}
use Rattle.boc_program.specs.Meaning.{Wish}
use Rattle.boc_runs.specs.Serial.{Behaviour, behaviour_of}
use Rattle.boc_runs.specs.machine.Queues.{times}
use Rattle.boc_closed_sets.specs.Meant.{meant_at}

-- Each behaviour has a footprint, a set of cowns: it holds the behaviour's own cowns and, for all values, the footprints of its wishes.
pub record AreFootprints (p : Program) (footprint : Behaviour → ℕ → Type 0) : Type 0 where
  pub own : (b : Behaviour) (c : ℕ) → 0 < times c b.cowns → footprint b c
  pub wishes : (b : Behaviour) (values : List ℤ) (w : Wish) → Contains (meant_at p b values).wishes w
      → (c : ℕ) → footprint (behaviour_of w) c → footprint b c

-- a cown of a behaviour, or one that its kind reaches
abbrev pub IsInFootprint : (ℕ → ℕ → Type 0) → Behaviour → ℕ → Type 0
IsInFootprint reach b c = (0 < times c b.cowns) ⊎ reach b.kind c

-- Footprints by kinds. For all values, the footprint of a behaviour holds those of its wishes: each cown of a wish is one of its own or one that its kind
-- reaches, and its kind reaches the cowns that the kind of a wish reaches.
pub record IsFootprint (p : Program) (reach : ℕ → ℕ → Type 0) : Type 0 where
  pub cowns : (b : Behaviour) (values : List ℤ) (w : Wish) → Contains (meant_at p b values).wishes w
      → (c : ℕ) → 0 < times c w.cowns → IsInFootprint reach b c
  pub kinds : (b : Behaviour) (values : List ℤ) (w : Wish) → Contains (meant_at p b values).wishes w
      → (c : ℕ) → reach w.kind c → reach b.kind c

-- a cown is in the list of something that has a list of cowns, as a kind or a behaviour
abbrev pub IsListed : {A : Type 0} → (A → List ℕ) → A → ℕ → Type 0
IsListed lists x c = Contains (lists x) c
