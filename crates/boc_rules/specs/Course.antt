-- A run under way as it is judged: its rows so far, and what an event does to them.
use Rattle.std.specs.Prelude.{◌≡◌, ℕ, ◌≤◌, List, length, Result, Ok, Err}
use Rattle.boc_program.specs.declared.limits.TheConstants.{MOST_COWNS}
use Rattle.boc_runs.specs.declared.event.Event.{Event}
use Rattle.boc_runs.specs.declared.rows.Row.{Row}
use Rattle.boc_runs.specs.Lives.{AreOver}
use Rattle.boc_runs.specs.Legal.{Entry, entries, after, life_of, IsLegal, IsAllowed, IsFirstBroken}
use Rattle.boc_runs.specs.Records.{AreRowsOf}
use Rattle.boc_rules.specs.Log.{Log, HasRoomFor, rooms_after}
use Rattle.boc_rules.specs.declared.fault.RuleFault.{RuleFault}
use Rattle.boc_rules.specs.declared.fault.RuleFault.TheVariants.{Broken, Memory}

-- a number of cowns, the rows so far, and how many rows there is room for that are not spawned yet
pub record Course : Type 0 where
  pub cowns : ℕ
  pub rows : List Entry
  pub rooms : ℕ

-- the course after an event
abbrev pub stepped : Course → Event → Course
stepped course event = record course { rows = after course.rows event; rooms = rooms_after course.rooms event }

-- the course that a log has taken
abbrev pub course_of : Log → Course
course_of log = record { cowns = log.cowns; rows = entries log.events; rooms = log.rooms }

-- rows that a log makes which keeps the rules over so many cowns
pub record AreLegal (cowns : ℕ) (rows : List Entry) : Type 0 where
  pub few : cowns ≤ MOST_COWNS
  pub log : List Event
  pub legal : IsLegal cowns log
  pub rows_are : rows ≡ entries log

-- there is a row, and every row has ended
abbrev pub IsOver : List Entry → Type 0
IsOver rows = AreOver (length rows) (life_of rows)

-- An event that is allowed takes the run on, and one that isn't is refused for the first rule that it breaks.
-- Memory is wanted only for a spawn that is allowed and finds no room. The run stays as it was where the event is refused.
abbrev pub Steps : Course → Event → Result (Unit {0}) RuleFault → Course → Type 0
Steps old event (Ok _) new = IsAllowed old.cowns old.rows event × (new ≡ stepped old event)
Steps old event (Err (Broken rule)) new = IsFirstBroken old.cowns old.rows event rule × (new ≡ old)
Steps old event (Err Memory) new = IsAllowed old.cowns old.rows event × (HasRoomFor old.rooms event → ⊥) × (new ≡ old)

-- the rows of a run that is over, or the run itself where it isn't
abbrev pub GivesRows : Course → Result (List Row) Course → Type 0
GivesRows course (Ok rows) = IsOver course.rows × AreRowsOf course.rows rows
GivesRows course (Err same) = (same ≡ course) × (IsOver course.rows → ⊥)
