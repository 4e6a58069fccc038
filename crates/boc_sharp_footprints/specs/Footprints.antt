-- Footprints by kinds and arguments.
use Rattle.std.specs.Prelude.{◌⊎◌, ◌<◌, ℕ, List, ℤ, IsTrue}
use Rattle.std.specs.List.{Contains}
use Rattle.boc_program.specs.declared.program.Program.{Program}
use Rattle.boc_program.specs.Meaning.{Wish}
use Rattle.boc_runs.specs.Serial.{Behaviour}
use Rattle.boc_runs.specs.machine.Queues.{times}
use Rattle.boc_footprints.specs.Footprints.{TakesAll, meant_at}
use Rattle.boc_sharp_footprints.specs.Tables.{Sharp, reaches_by}

-- Whatever the values, each behaviour reaches by its kind and its arguments the cowns of its wishes that are not its own, and the cowns that its wishes reach.
pub record IsFootprintByArgs (p : Program) (reach : ℕ → List ℤ → ℕ → Type 0) : Type 0 where
  pub cowns : (b : Behaviour) (values : List ℤ) (w : Wish) → TakesAll p b → Contains (meant_at p b values).wishes w
      → (c : ℕ) → 0 < times c w.cowns → (0 < times c b.cowns) ⊎ reach b.kind b.args c
  pub wishes : (b : Behaviour) (values : List ℤ) (w : Wish) → TakesAll p b → Contains (meant_at p b values).wishes w
      → (c : ℕ) → reach w.kind w.args c → reach b.kind b.args c

-- by a table
abbrev pub ReachedBy : Sharp → ℕ → List ℤ → ℕ → Type 0
ReachedBy table kind args c = IsTrue (reaches_by table kind args c)

-- A cown is in the footprint of a behaviour: the behaviour has it, or reaches it. One without as many arguments and cowns as its body takes is in no
-- run, and its footprint holds every cown.
abbrev pub InFootprintByArgs : Program → (ℕ → List ℤ → ℕ → Type 0) → Behaviour → ℕ → Type 0
InFootprintByArgs p reach b c = TakesAll p b → (0 < times c b.cowns) ⊎ reach b.kind b.args c
