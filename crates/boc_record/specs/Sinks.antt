-- What becomes of an event that is handed to a sink.
use Rattle.std.specs.Prelude.{ℕ, List, [], ◌∷◌, ◌++◌, Result, Ok, Err}
use Rattle.boc_runs.specs.declared.event.Event.{Event}
use Rattle.boc_runs.specs.declared.event.Event.TheVariants.{Spawn, Start, End}
use Rattle.boc_runs.specs.Legal.{entries, IsAllowed, IsFirstBroken}
use Rattle.boc_rules.specs.declared.fault.RuleFault.{RuleFault}
use Rattle.boc_rules.specs.declared.fault.RuleFault.TheVariants.{Broken, Memory}

-- the event is a spawn, the only kind that memory is taken for
abbrev pub IsSpawn : Event → Type 0
IsSpawn (Spawn row parent offset cowns) = Unit {0}
IsSpawn (Start row) = ⊥
IsSpawn (End row ticks status written) = ⊥

-- After these events one that is allowed is taken, and one that isn't is refused for the first rule that it breaks. Memory is refused only to a spawn that is
-- allowed.
abbrev pub Hands : ℕ → List Event → Event → Result (Unit {0}) RuleFault → (List Event → Type 0) → Type 0
Hands count log event (Ok _) taken = IsAllowed count (entries log) event × taken (log ++ event ∷ [])
Hands count log event (Err (Broken rule)) taken = IsFirstBroken count (entries log) event rule
Hands count log event (Err Memory) taken = IsAllowed count (entries log) event × IsSpawn event
