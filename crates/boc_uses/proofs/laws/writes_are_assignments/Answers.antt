use Rattle.boc_uses.proofs.Writes as proved
use Rattle.boc_uses.proofs.laws.writes_are_assignments.Goals as goal

pub returns : goal.returns
returns c args inputs = proved.writes_are_assignments c.args.body.now args inputs
