use Rattle.boc_plans.specs.Seen.{seen}
use Rattle.boc_plans.proofs.Seeing.{rows_seen}
use Rattle.boc_run_commands.proofs.Promised.{best, within_bound}
use Rattle.boc_commands.proofs.laws.answers_are_true.Goals as goal

pub returns-clause-best : goal.returns-clause-best
returns-clause-best c = λ rows sharing profile is.
    best (seen sharing rows) profile.starts.items profile.chain.steps.items profile.span is.earliest is.span is.picked.chain is.weight

pub returns-clause-greedy : goal.returns-clause-greedy
returns-clause-greedy c = λ rows sharing p plan hr is.
    within_bound (seen sharing rows) p plan.starts.items plan.workers.items plan.ends_at (rows_seen sharing rows hr) is.greedy is.ends_at
