-- Places of a front that a search may confine itself to.
use Rattle.std.specs.Prelude.{◌⊎◌, ◌<◌, ℕ, List, Some, slice_get, ◌≡◌}
use Rattle.std.specs.List.{Contains}
use Rattle.boc_program.specs.declared.program.Program.{Program}
use Rattle.boc_runs.specs.Serial.{Behaviour}
use Rattle.boc_runs.specs.machine.Queues.{times}
use Rattle.boc_fronts.specs.Fronts.{Front, LiveRow}
use Rattle.boc_closed_sets.specs.Closed.{IsClosedFor}
use Rattle.boc_closed_sets.specs.Enough.{AreFreeOf, AreAllFree}
use Rattle.boc_footprints.specs.Footprints.{TakesAll}
use Rattle.boc_sharp_footprints.specs.Footprints.{ReachedBy}
use Rattle.boc_choices.specs.Holding.{Table}

-- a cown of a behaviour, or one that it reaches by a table
abbrev pub IsReached : Table → Behaviour → ℕ → Type 0
IsReached table b c = (0 < times c b.cowns) ⊎ ReachedBy table b.kind b.args c

-- these places are the free ones of a set that is closed by a table of what behaviours reach, or they are all the free ones
abbrev pub AreChosen : Table → Front → List ℕ → Type 0
AreChosen table f places = ((inside : List ℕ) × IsClosedFor (IsReached table) f inside × AreFreeOf f inside places) ⊎ AreAllFree f places

-- each wish of a front has as many arguments and cowns as its body takes
abbrev pub WishesTakeAll : Program → Front → Type 0
WishesTakeAll p f = (i : ℕ) (row : LiveRow) (b : Behaviour) → slice_get f.live i ≡ Some row → Contains row.wishes b → TakesAll p b
