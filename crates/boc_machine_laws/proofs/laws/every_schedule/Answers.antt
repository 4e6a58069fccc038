use Rattle.boc_machine_laws.proofs.Every.{reaches_keeps, every_run}
use Rattle.boc_machine_laws.proofs.laws.every_schedule.Goals as goal

pub returns-clause-sound : goal.returns-clause-sound
returns-clause-sound c = reaches_keeps

pub returns-clause-run : goal.returns-clause-run
returns-clause-run c = every_run
