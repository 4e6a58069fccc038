use Rattle.boc_runs.proofs.RunsAreLegal.{run_is_legal}
use Rattle.boc_runs.proofs.laws.runs_are_legal.Goals as goal

pub returns : goal.returns
returns c = run_is_legal
