-- What a follower does with an event.
use Rattle.std.specs.Prelude.{◌≡◌, ℕ, List, ◌++◌, [], ◌∷◌, Result, Ok, Err, Some, None, slice_get}
use Rattle.arrayvec.specs.ArrayVec.{ArrayVec}
use Rattle.boc_runs.specs.declared.event.Event.{Event}
use Rattle.boc_runs.specs.declared.event.Event.TheVariants.{Spawn, Start, End}
use Rattle.boc_runs.specs.Serial.{Behaviour}
use Rattle.boc_runs.specs.Run.{Member, config_of, MayHappen}
use Rattle.boc_follow.specs.Following.{Following}
use Rattle.boc_follow.specs.Standings.{Standing, Underway}
use Rattle.boc_follow.specs.declared.follower.TakeFault.{TakeFault}
use Rattle.boc_follow.specs.declared.follower.TakeFault.TheVariants.{NotAllowed, Memory}

-- the event is one that the rule of runs allows next
abbrev pub MayCome : Following → Event → Type 0
MayCome f event = MayHappen f.program (config_of f.program f.log) event

-- only for a spawn and for a start memory is wanted
abbrev pub WantsMemory : Event → Type 0
WantsMemory (Spawn row parent offset cowns) = Unit {0}
WantsMemory (Start row) = Unit {0}
WantsMemory (End row ticks status written) = ⊥

-- An event that may come is put behind the log, and one that may not is refused. Memory is wanted only for a spawn or
-- a start that may come. Nothing changes where the event is not taken.
abbrev pub Takes : Following → Event → Result (Unit {0}) TakeFault → Following → Type 0
Takes old event (Ok _) new = MayCome old event × (new ≡ record old { log = old.log ++ event ∷ [] })
Takes old event (Err NotAllowed) new = (MayCome old event → ⊥) × (new ≡ old)
Takes old event (Err Memory) new = MayCome old event × WantsMemory event × (new ≡ old)

-- a spawn by this parent, at this offset and over these cowns
pub record IsSpawn (event : Event) (parent offset : ℕ) (cowns : ArrayVec ℕ) : Type 0 where
  pub row : ℕ
  pub is : event ≡ Spawn row parent offset cowns

-- a row of a run is this behaviour
pub record IsOfRow (members : List Member) (row : ℕ) (b : Behaviour) : Type 0 where
  pub member : Member
  pub is : slice_get members row ≡ Some member
  pub behaviour_is : member.behaviour ≡ b

-- the event is the end of this row as what is under way has it
pub record IsEndBy (u : Underway) (row : ℕ) (event : Event) : Type 0 where
  pub written : ArrayVec ℕ
  pub written_is : written.items ≡ u.means.written
  pub is : event ≡ End row u.means.ticks u.means.status written

-- this row runs, and the event is its end
pub record IsEndOf (rows : List Standing) (row : ℕ) (event : Event) : Type 0 where
  pub standing : Standing
  pub is : slice_get rows row ≡ Some standing
  pub underway : Underway
  pub runs : standing.underway ≡ Some underway
  pub ends : IsEndBy underway row event

-- this row is not there, or doesn't run
abbrev pub IsIdle : List Standing → ℕ → Type 0
IsIdle rows row = (s : Standing) → slice_get rows row ≡ Some s → s.underway ≡ None
