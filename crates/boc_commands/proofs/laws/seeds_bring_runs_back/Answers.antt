use Rattle.boc_commands.proofs.ComingBack.{each_again, run_again}
use Rattle.boc_commands.proofs.laws.seeds_bring_runs_back.Goals as goal

pub returns-clause-there : goal.returns-clause-there
returns-clause-there c draws input output answer i o told = run_again draws input output answer i o told

pub returns-clause-each : goal.returns-clause-each
returns-clause-each c draws input output answer i o told r scheduled = each_again draws input output answer i o told r scheduled
