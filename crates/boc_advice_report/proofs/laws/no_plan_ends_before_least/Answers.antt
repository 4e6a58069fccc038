use Rattle.boc_advice_report.proofs.Shares.{none_before}
use Rattle.boc_advice_report.proofs.laws.no_plan_ends_before_least.Goals as goal

pub returns : goal.returns
returns c rows own plan workers last hr some work span keeps for end = none_before rows own plan workers last some work span keeps for end
