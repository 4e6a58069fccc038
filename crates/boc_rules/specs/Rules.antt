-- What an event does to a log under way, and what becomes of the log in the end.
use Rattle.std.specs.Prelude.{◌≡◌, Result, Ok, Err}
use Rattle.boc_runs.specs.declared.event.Event.{Event}
use Rattle.boc_runs.specs.Legal.{entries, IsAllowed, IsFirstBroken, IsComplete}
use Rattle.boc_runs.specs.Records.{Recorded, IsRecord}
use Rattle.boc_rules.specs.Log.{Log, HasRoomFor, grown}
use Rattle.boc_rules.specs.declared.fault.RuleFault.{RuleFault}
use Rattle.boc_rules.specs.declared.fault.RuleFault.TheVariants.{Broken, Memory}

-- An event that is allowed is put behind the log, and one that isn't is refused for the first rule that it breaks.
-- Memory is wanted only for a spawn that is allowed and finds no room. The log stays as it was where the event is refused.
abbrev pub Applies : Log → Event → Result (Unit {0}) RuleFault → Log → Type 0
Applies old event (Ok _) new = IsAllowed old.cowns (entries old.events) event × (new ≡ grown old event)
Applies old event (Err (Broken rule)) new = IsFirstBroken old.cowns (entries old.events) event rule × (new ≡ old)
Applies old event (Err Memory) new = IsAllowed old.cowns (entries old.events) event × (HasRoomFor old.rooms event → ⊥) × (new ≡ old)

-- the record of a complete log, or the log itself where it is not complete
abbrev pub Records : Log → Result Recorded Log → Type 0
Records log (Ok r) = (r.cowns ≡ log.cowns) × (r.events ≡ log.events) × IsComplete log.events × IsRecord r
Records log (Err same) = (same ≡ log) × (IsComplete log.events → ⊥)
