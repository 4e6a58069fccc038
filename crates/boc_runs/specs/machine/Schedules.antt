-- Any steps, one after the other.
use Rattle.boc_program.specs.declared.program.Program.{Program}
use Rattle.boc_runs.specs.declared.step.Step.{Step}
use Rattle.boc_runs.specs.machine.Steps.{State, Makes}

-- any number of steps lead from the one state to the other
pub data Reaches (p : Program) (s : State) : State → Type 0 where
  Here : Reaches p s s
  Then : (step : Step) (t u : State) → Reaches p s t → Makes p t step u → Reaches p s u
