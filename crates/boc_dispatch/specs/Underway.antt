-- What a dispatcher is: a program, and where its machine stands.
use Rattle.boc_program.specs.declared.program.Program.{Program}
use Rattle.boc_runs.specs.machine.Steps.{State}

-- a program under way
pub record Underway : Type 0 where
  pub program : Program
  pub state : State
