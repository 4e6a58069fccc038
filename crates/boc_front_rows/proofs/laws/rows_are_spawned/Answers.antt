use Rattle.boc_front_rows.proofs.Spawning.{spawned_rows}
use Rattle.boc_front_rows.proofs.laws.rows_are_spawned.Goals as goal

pub returns : goal.returns
returns c = spawned_rows
