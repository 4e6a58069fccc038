-- A run whose rows are spawned in a given order.
use Rattle.std.specs.Prelude.{◌≡◌, ◌⊎◌, ℕ, ◌<◌, Bool, true, false, List, [], ◌∷◌, ◌++◌, length, map, Some, None}
use Rattle.std.specs.List.{Contains}
use Rattle.arrayvec.specs.ArrayVec.{ArrayVec}
use Rattle.boc_program.specs.Programs.{cown_count}
use Rattle.boc_program.specs.Meaning.{Wish}
use Rattle.boc_program.specs.declared.limits.TheConstants.{MOST_ROWS}
use Rattle.boc_runs.specs.declared.event.Event.{Event}
use Rattle.boc_runs.specs.declared.event.Event.TheVariants.{Spawn}
use Rattle.boc_runs.specs.Lives.{Running, Ended, MayStart}
use Rattle.boc_runs.specs.Run.{config_of, state_of, member_cowns, IsRun}
use Rattle.boc_runs.specs.machine.AlongRows.{parents_of_rows, serial_of_log}
use Rattle.boc_fronts.specs.Orders.{HasWish, IsNextParent}
use Rattle.boc_fronts.specs.Settled.{Settled}
use Rattle.boc_follow.specs.Following.{Following}
use Rattle.boc_follow.specs.Standings.{standing_of, next_at}
use Rattle.boc_follow.specs.Takes.{MayCome, IsEndOf, IsIdle}
use Rattle.boc_play.specs.Waiting.{Tables, AreChained}

-- the program stays, and these events come behind the others
abbrev pub IsLonger : Following → List Event → Following → Type 0
IsLonger old events new = new ≡ record old { log = old.log ++ events }

-- an event was taken if it may come
abbrev pub IsTried : Following → Event → Following → Type 0
IsTried old event new = (MayCome old event × IsLonger old (event ∷ []) new) ⊎ ((MayCome old event → ⊥) × (new ≡ old))

-- a row that runs and has no wish left has ended as its body ends
pub record HasEnded (old : Following) (row : ℕ) (new : Following) : Type 0 where
  pub event : Event
  pub ends : IsEndOf (map (standing_of old.program) (config_of old.program old.log).members) row event
  pub spent : next_at (map (standing_of old.program) (config_of old.program old.log).members) row ≡ None
  pub may : MayCome old event
  pub longer : IsLonger old (event ∷ []) new

-- a row has a wish left, and nothing has changed
pub record HasMore (old : Following) (row : ℕ) (new : Following) : Type 0 where
  pub wish : Wish
  pub next : next_at (map (standing_of old.program) (config_of old.program old.log).members) row ≡ Some wish
  pub same : new ≡ old

-- a row that runs and has no wish left has ended; else nothing has changed
abbrev pub GoesOn : Following → ℕ → Bool → Following → Type 0
GoesOn old row true new = HasEnded old row new
GoesOn old row false new = HasMore old row new ⊎ (IsIdle (map (standing_of old.program) (config_of old.program old.log).members) row × (new ≡ old))

-- a row may not start, and has a wish left if it runs: it goes on after a spawn or an end alone
pub record Rests (f : Following) (row : ℕ) : Type 0 where
  pub held : MayStart (state_of (config_of f.program f.log).members) (member_cowns (config_of f.program f.log).members) row → ⊥
  pub wishes : state_of (config_of f.program f.log).members row ≡ Some Running → HasWish (serial_of_log f.program f.log).rows row

-- all rows but these rest
abbrev pub AllRestBut : Following → List ℕ → Type 0
AllRestBut f rows = (row : ℕ) → (Contains rows row → ⊥) → Rests f row

-- a row has this cown
abbrev pub IsOver : Following → ℕ → ℕ → Type 0
IsOver f row cown = Contains (member_cowns (config_of f.program f.log).members row) cown

abbrev pub IsUnended : Following → ℕ → Type 0
IsUnended f row = state_of (config_of f.program f.log).members row ≡ Some Ended → ⊥

-- a run, and which of its rows come next after others
pub record AreTablesOf (f : Following) (t : Tables) : Type 0 where
  pub run : IsRun f.program f.log
  pub rows : length t.next ≡ length (config_of f.program f.log).members
  pub cowns : length t.latest ≡ cown_count f.program.cowns
  pub chained : AreChained (IsOver f) (IsUnended f) t

-- a run of which so many rows are settled
pub record AreSettled (f : Following) (rows : ℕ) : Type 0 where
  pub run : IsRun f.program f.log
  pub settled : (r : ℕ) → r < rows → Settled (serial_of_log f.program f.log).rows (config_of f.program f.log).members r

-- a settled run, in which the next row may have this parent
pub record CanSpawnNext (f : Following) (parent : ℕ) : Type 0 where
  pub settled : AreSettled f (length (parents_of_rows f.log))
  pub can : IsNextParent (serial_of_log f.program f.log).rows parent
  pub few : length (parents_of_rows f.log) < MOST_ROWS

-- the same run with events that spawn no row
pub record SpawnsNone (old new : Following) : Type 0 where
  pub program : new.program ≡ old.program
  pub parents : parents_of_rows new.log ≡ parents_of_rows old.log

-- the same run with one row more, of this parent
pub record SpawnsOne (old : Following) (parent : ℕ) (new : Following) : Type 0 where
  pub program : new.program ≡ old.program
  pub parents : parents_of_rows new.log ≡ parents_of_rows old.log ++ parent ∷ []

-- the next row was spawned by this parent
pub record HasSpawned (old : Following) (parent : ℕ) (new : Following) : Type 0 where
  pub row : ℕ
  pub offset : ℕ
  pub cowns : ArrayVec ℕ
  pub may : MayCome old (Spawn row parent offset cowns)
  pub longer : IsLonger old (Spawn row parent offset cowns ∷ []) new
