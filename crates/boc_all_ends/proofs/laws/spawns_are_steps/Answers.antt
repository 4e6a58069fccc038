use Rattle.boc_all_ends.proofs.Spawned.{step_is}
use Rattle.boc_all_ends.proofs.laws.spawns_are_steps.Goals as goal

pub returns : goal.returns
returns c = step_is
