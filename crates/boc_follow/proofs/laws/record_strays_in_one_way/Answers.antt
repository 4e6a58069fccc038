use Rattle.boc_follow.proofs.OneStray.{one_stray, stray_is_none}
use Rattle.boc_follow.proofs.laws.record_strays_in_one_way.Goals as goal

pub returns-clause-one : goal.returns-clause-one
returns-clause-one c = one_stray

pub returns-clause-never_both : goal.returns-clause-never_both
returns-clause-never_both c = stray_is_none
