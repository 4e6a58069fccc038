use Rattle.boc_plans.specs.Seen.{seen}
use Rattle.boc_plans.proofs.Seeing.{rows_seen}
use Rattle.boc_run_commands.proofs.Promised.{true_report}
use Rattle.boc_commands.proofs.laws.reports_are_true.Goals as goal

pub returns : goal.returns
returns c = λ rows sharing asked text hr report. true_report (seen sharing rows) asked text (rows_seen sharing rows hr) report
