use Rattle.boc_uses.proofs.Unneeded.{unneeded_changes_nothing}
use Rattle.boc_uses.proofs.laws.unneeded_values_change_nothing.Goals as goal

pub returns : goal.returns
returns c args inputs place v = unneeded_changes_nothing c.args.body.now args inputs place v
