-- Virtual workers: what is due to each, and what its turn does.
use Rattle.std.specs.Prelude.{◌≡◌, ℕ, true, List, [], ◌∷◌, Option, Some, None, replicate, slice_get, slice_set}
use Rattle.boc_program.specs.declared.program.Program.{Program}
use Rattle.boc_runs.specs.declared.step.Step.{Step}
use Rattle.boc_runs.specs.machine.Stages.{OpenBehaviour, parent_of, enqueues}
use Rattle.boc_runs.specs.machine.Steps.{State, at, opening_state, Advances, IsBlockedAsking, Opens, Starts, Finishes, Leaves, IsBlockedLeaving}

-- the open enqueue of a row
pub record IsEnqueueOf (s : State) (who row : ℕ) : Type 0 where
  pub is_open : enqueues (at s who) ≡ true
  pub parent : parent_of (at s who) ≡ row

-- the row that a worker serves on, unless its behaviour is gone
abbrev pub unless_gone : ℕ → Option OpenBehaviour → Option ℕ
unless_gone row None = None
unless_gone row (Some b) = Some row

-- One turn of a worker: the state and the row that it serves, if any, before and after. With no row the first of the ready
-- list is due; with a row the next step of its open enqueue, else its next wish, else its end, else its next release. Where
-- nothing is ready, and where the step that is due is blocked, nothing changes. An Open that has no room is no turn.
pub data TakesTurn (p : Program) (s : State) : Option ℕ → State → Option ℕ → Type 0 where
  Begins : (who row : ℕ) (t : State) → Starts s who row t → TakesTurn p s None t (Some row)
  NoneReady : s.ready ≡ [] → TakesTurn p s None s None
  Advanced : (row who : ℕ) (step : Step) (t : State) → IsEnqueueOf s who row → Advances p s who step t
      → TakesTurn p s (Some row) t (Some row)
  WaitsToSettle : (row who : ℕ) → IsEnqueueOf s who row → IsBlockedAsking s who → TakesTurn p s (Some row) s (Some row)
  Opened : (row : ℕ) (t : State) → Opens p s row t → TakesTurn p s (Some row) t (Some row)
  Finished : (row who : ℕ) (t : State) → Finishes p s who row t
      → TakesTurn p s (Some row) t (unless_gone row (at t who))
  Left : (row who : ℕ) (step : Step) (t : State) → Leaves s who row step t
      → TakesTurn p s (Some row) t (unless_gone row (at t who))
  WaitsToLeave : (row who : ℕ) → IsBlockedLeaving s who row → TakesTurn p s (Some row) s (Some row)

-- a state, and the row that each worker serves, if any
pub record Driven : Type 0 where
  pub state : State
  pub serves : List (Option ℕ)

-- the opening state, with so many workers, of which none serves a row
abbrev pub opening_driven : Program → ℕ → Driven
opening_driven p workers = record { state = opening_state p; serves = replicate workers None }

-- one turn of the worker of a number
pub record Turn (p : Program) (d : Driven) (worker : ℕ) (e : Driven) : Type 0 where
  pub before : Option ℕ
  pub after : Option ℕ
  pub is : slice_get d.serves worker ≡ Some before
  pub takes : TakesTurn p d.state before e.state after
  pub serves_are : e.serves ≡ slice_set d.serves worker after

-- a turn of each of these workers, one after the other
abbrev pub Turns : Program → Driven → List ℕ → Driven → Type 0
Turns p d [] e = e ≡ d
Turns p d (worker ∷ workers) e = (next : Driven) × Turn p d worker next × Turns p next workers e
