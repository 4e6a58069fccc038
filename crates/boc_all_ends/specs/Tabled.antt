-- A table of the cowns that behaviours reach, as a proposition.
use Rattle.std.specs.Prelude.{ℕ, ◌<◌, nat_lt, Bool, ◌||◌, IsTrue, List, ℤ}
use Rattle.std.specs.List.{Contains}
use Rattle.boc_program.specs.declared.program.Program.{Program}
use Rattle.boc_program.specs.Meaning.{Wish}
use Rattle.boc_runs.specs.Serial.{Behaviour}
use Rattle.boc_runs.specs.machine.Queues.{times}
use Rattle.boc_footprints.specs.Footprints.{TakesAll, meant_at}
use Rattle.boc_sharp_footprints.specs.Tables.{reaches_by}
use Rattle.boc_choices.specs.Holding.{Table}

-- a behaviour has a cown, or reaches it by the table
abbrev pub holds : Table → Behaviour → ℕ → Bool
holds table b c = nat_lt 0 (times c b.cowns) || reaches_by table b.kind b.args c

-- whatever the values, the cowns of a behaviour's wishes are held by it, and it reaches what the wishes reach
abbrev pub IsTableOf : Program → Table → Type 0
IsTableOf p table =
    ((b : Behaviour) (values : List ℤ) (w : Wish) → TakesAll p b → Contains (meant_at p b values).wishes w
    → (c : ℕ) → 0 < times c w.cowns → IsTrue (holds table b c))
    × ((b : Behaviour) (values : List ℤ) (w : Wish) → TakesAll p b → Contains (meant_at p b values).wishes w
    → (c : ℕ) → IsTrue (reaches_by table w.kind w.args c) → IsTrue (reaches_by table b.kind b.args c))
