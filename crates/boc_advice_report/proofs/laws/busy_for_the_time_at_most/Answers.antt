use Rattle.boc_advice_report.proofs.Shares.{busy_at_most}
use Rattle.boc_advice_report.proofs.laws.busy_for_the_time_at_most.Goals as goal

pub returns : goal.returns
returns c rows own hr some work g = busy_at_most rows own hr some work g
