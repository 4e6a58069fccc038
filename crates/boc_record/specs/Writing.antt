-- What stands in a text to which events could not all be put.
use Rattle.std.specs.Prelude.{◌≡◌, ℕ, ◌<◌, List, ◌++◌, length, take}
use Rattle.boc_runs.specs.declared.event.Event.{Event}
use Rattle.boc_record.specs.RecordTexts.{Version, event_lines}

-- the lines of the first of these events stand behind the text, whole, and not those of all
pub record PutsFirst (version : Version) (events : List Event) (old new : List ℕ) : Type 0 where
  pub count : ℕ
  pub fewer : count < length events
  pub put : new ≡ old ++ event_lines version (take count events)
