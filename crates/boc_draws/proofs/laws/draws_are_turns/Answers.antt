use Rattle.boc_runs.specs.machine.Turns.{opening_driven}
use Rattle.boc_draws.specs.Picks.{picker_of}
use Rattle.boc_draws.proofs.OneDraw.{are_turns}
use Rattle.boc_draws.proofs.laws.draws_are_turns.Goals as goal

pub returns : goal.returns
returns c p workers seed way choices e later turns = are_turns p (opening_driven p workers) (picker_of way workers seed) choices e later turns
