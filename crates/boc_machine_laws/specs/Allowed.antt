-- Whether the machine can go on.
use Rattle.std.specs.Prelude.{◌≡◌, ℕ, ◌+◌, Some, slice_get}
use Rattle.boc_program.specs.declared.limits.TheConstants.{MOST_ROWS}
use Rattle.boc_program.specs.declared.program.Program.{Program}
use Rattle.boc_runs.specs.declared.step.Step.{Step}
use Rattle.boc_program.specs.Meaning.{Wish}
use Rattle.boc_runs.specs.Lives.{Running}
use Rattle.boc_runs.specs.Run.{next_wish, state_of}
use Rattle.boc_runs.specs.machine.Steps.{State, Makes, HasNoEnqueue, members, recorded, unrecorded}

-- some step is allowed
pub record AllowsStep (p : Program) (s : State) : Type 0 where
  pub step : Step
  pub after : State
  pub makes : Makes p s step after

-- a row runs, has no open enqueue, and has a wish next; and rows and unrecorded enqueues are together as many as rows may be
pub record IsFull (p : Program) (s : State) : Type 0 where
  pub row : ℕ
  pub runs : state_of (members p s) row ≡ Some Running
  pub none_open : HasNoEnqueue s row
  pub wish : Wish
  pub next : next_wish p (slice_get (members p s) row) ≡ Some wish
  pub full : recorded p s + unrecorded s ≡ MOST_ROWS
