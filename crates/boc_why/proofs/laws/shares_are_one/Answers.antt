use Rattle.boc_why.proofs.ShareLaws.{one_list}
use Rattle.boc_why.proofs.laws.shares_are_one.Goals as goal

pub returns : goal.returns
returns c keys steps shares others one other = one_list keys steps shares others one other
