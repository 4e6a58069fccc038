-- Footprints: the cowns that a behaviour and those that it leads to can have.
use Rattle.std.specs.Prelude.{◌≡◌, ◌⊎◌, ◌<◌, ℕ, List, ℤ, IsTrue, Some, length, map, slice_get}
use Rattle.std.specs.List.{Contains}
use Rattle.boc_program.specs.declared.body.Body.{Body}
use Rattle.boc_program.specs.declared.program.Program.{Program}
use Rattle.boc_program.specs.Meaning.{Wish, Meaning}
use Rattle.boc_program.specs.Signatures.{CountsAre, signature_of}
use Rattle.boc_runs.specs.Serial.{Behaviour, inputs_of, meaning_if}
use Rattle.boc_runs.specs.machine.Queues.{times}
use Rattle.boc_footprints.specs.Whens.{names, spawns}

-- a kind reaches a cown: a `when` of its body names the cown, or spawns a kind that reaches it
pub data Reaches (p : Program) : ℕ → ℕ → Type 0 where
  Names : (kind cown : ℕ) (body : Body) → slice_get p.bodies kind ≡ Some body → IsTrue (names cown body.block) → Reaches p kind cown
  Spawns : (kind other cown : ℕ) (body : Body) → slice_get p.bodies kind ≡ Some body → IsTrue (spawns other body.block)
      → Reaches p other cown → Reaches p kind cown

-- what a behaviour means that runs on these values of the cowns
abbrev pub meant_at : Program → Behaviour → List ℤ → Meaning
meant_at p b values = meaning_if (slice_get p.bodies b.kind) b.args (inputs_of b.cowns values)

-- a behaviour has as many arguments and cowns as its body takes
abbrev pub TakesAll : Program → Behaviour → Type 0
TakesAll p b = CountsAre (slice_get (map signature_of p.bodies) b.kind) (length b.args) (length b.cowns)

-- Whatever the values, each kind reaches the cowns of its behaviours' wishes that are not the behaviour's own, and the cowns that the kinds of the wishes reach.
pub record IsFootprint (p : Program) (reach : ℕ → ℕ → Type 0) : Type 0 where
  pub cowns : (b : Behaviour) (values : List ℤ) (w : Wish) → TakesAll p b → Contains (meant_at p b values).wishes w
      → (c : ℕ) → 0 < times c w.cowns → (0 < times c b.cowns) ⊎ reach b.kind c
  pub kinds : (b : Behaviour) (values : List ℤ) (w : Wish) → Contains (meant_at p b values).wishes w
      → (c : ℕ) → reach w.kind c → reach b.kind c

-- A cown is in the footprint of a behaviour: the behaviour has it, or its kind reaches it. One without as many arguments and cowns as its body takes is in no
-- run, and its footprint holds every cown.
abbrev pub InFootprint : Program → (ℕ → ℕ → Type 0) → Behaviour → ℕ → Type 0
InFootprint p reach b c = TakesAll p b → (0 < times c b.cowns) ⊎ reach b.kind c
