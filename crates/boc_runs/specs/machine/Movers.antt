-- Who can step.
use Rattle.std.specs.Prelude.{◌≡◌, ℕ, Bool, true, false, Option, Some, None}
use Rattle.boc_program.specs.declared.program.Program.{Program}
use Rattle.boc_runs.specs.declared.stage.Phase.TheVariants as phases
use Rattle.boc_runs.specs.declared.stage.Stage.{Stage}
use Rattle.boc_runs.specs.declared.stage.Stage.TheVariants.{Asking, Recorded}
use Rattle.boc_runs.specs.declared.step.Step.{Step}
use Rattle.boc_runs.specs.Lives.{Running}
use Rattle.boc_runs.specs.Run.{state_of}
use Rattle.boc_runs.specs.machine.Stages.{OpenBehaviour}
use Rattle.boc_runs.specs.machine.Steps.{State, at, members, HasNoEnqueue, Starts, Advances, Leaves}
use Rattle.boc_runs.specs.machine.Turns.{IsEnqueueOf}

-- is it being enqueued, running or leaving?
abbrev pub works_at : Stage → Bool
works_at (Asking request exchanged) = true
works_at (Recorded row phases.Waiting) = false
works_at (Recorded row phases.Ready) = false
works_at (Recorded row _) = true

-- the same of an open behaviour, and of none
abbrev pub works : Option OpenBehaviour → Bool
works None = false
works (Some b) = works_at b.stage

-- no behaviour is being enqueued, running or leaving
abbrev pub NobodyWorks : State → Type 0
NobodyWorks s = (who : ℕ) → works (at s who) ≡ false

-- a row's open enqueue has a step that is allowed
pub record CanAdvance (p : Program) (s : State) (who row : ℕ) : Type 0 where
  pub enqueue : IsEnqueueOf s who row
  pub step : Step
  pub after : State
  pub advances : Advances p s who step after

-- a row runs and has no open enqueue: its body can go on
pub record CanGoOn (p : Program) (s : State) (row : ℕ) : Type 0 where
  pub runs : state_of (members p s) row ≡ Some Running
  pub none_open : HasNoEnqueue s row

-- a row's behaviour has a release that is allowed
pub record CanLeave (s : State) (row : ℕ) : Type 0 where
  pub who : ℕ
  pub step : Step
  pub after : State
  pub leaves : Leaves s who row step after

-- a row is first in the ready list, and nobody works
pub record CanStart (s : State) (row : ℕ) : Type 0 where
  pub idle : NobodyWorks s
  pub who : ℕ
  pub after : State
  pub starts : Starts s who row after

-- somebody can step
pub data SomebodyCanStep (p : Program) (s : State) : Type 0 where
  Enqueue : (who row : ℕ) → CanAdvance p s who row → SomebodyCanStep p s
  Body : (row : ℕ) → CanGoOn p s row → SomebodyCanStep p s
  Release : (row : ℕ) → CanLeave s row → SomebodyCanStep p s
  First : (row : ℕ) → CanStart s row → SomebodyCanStep p s
