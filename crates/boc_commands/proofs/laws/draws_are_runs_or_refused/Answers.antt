use Rattle.boc_run_commands.proofs.Seeding.{full_draw, run_or_full}
use Rattle.boc_commands.proofs.laws.draws_are_runs_or_refused.Goals as goal

pub returns : goal.returns
returns c = record { either = run_or_full; full = full_draw }
