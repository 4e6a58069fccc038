use Rattle.boc_why.proofs.ShareLaws.{add_up}
use Rattle.boc_why.proofs.laws.shares_add_up.Goals as goal

pub returns : goal.returns
returns c keys steps shares are whole = add_up keys steps shares are whole
