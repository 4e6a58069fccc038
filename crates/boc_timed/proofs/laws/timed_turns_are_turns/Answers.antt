use Rattle.boc_runs.specs.machine.Turns.{opening_driven}
use Rattle.boc_clock.specs.Clocks.{first_clocks}
use Rattle.boc_timed.proofs.OneTimed.{are_turns}
use Rattle.boc_timed.proofs.laws.timed_turns_are_turns.Goals as goal

pub returns : goal.returns
returns c p workers choices e later turns = are_turns p (opening_driven p workers) first_clocks choices e later turns
