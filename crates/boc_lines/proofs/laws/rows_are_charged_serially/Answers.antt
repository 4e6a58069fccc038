use Rattle.boc_lines.proofs.Serially.{charged_serially, totals_serially}
use Rattle.boc_lines.proofs.laws.rows_are_charged_serially.Goals as goal

pub returns-clause-charges : goal.returns-clause-charges
returns-clause-charges c = charged_serially

pub returns-clause-ticks : goal.returns-clause-ticks
returns-clause-ticks c = totals_serially
