use Rattle.boc_typical.proofs.Middle.{median_in_middle, one_median}
use Rattle.boc_typical.proofs.laws.median_stands_in_the_middle.Goals as goal

pub returns-clause-middle : goal.returns-clause-middle
returns-clause-middle c = median_in_middle

pub returns-clause-one : goal.returns-clause-one
returns-clause-one c = one_median
