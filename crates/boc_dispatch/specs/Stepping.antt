-- Which workers can move.
use Rattle.std.specs.Prelude.{◌≡◌, ℕ, ◌+◌, ◌⊎◌, Option}
use Rattle.boc_runs.specs.machine.Steps.{State}
use Rattle.boc_runs.specs.machine.Turns.{TakesTurn}
use Rattle.boc_dispatch.specs.Underway.{Underway}
use Rattle.boc_dispatch.specs.Calls.{HasNoRoom}

-- the turn of a worker that serves this row, if any, makes a step
pub record MakesStep (u : Underway) (row : Option ℕ) : Type 0 where
  pub state : State
  pub after : Option ℕ
  pub takes : TakesTurn u.program u.state row state after
  pub steps : state.steps ≡ u.state.steps + 1

-- A worker that serves this row, if any, can move: its turn makes a step; or it would, but that the row's next wish is due and
-- there is no space for it.
abbrev pub CanTurn : Underway → Option ℕ → Type 0
CanTurn u row = MakesStep u row ⊎ HasNoRoom u row
