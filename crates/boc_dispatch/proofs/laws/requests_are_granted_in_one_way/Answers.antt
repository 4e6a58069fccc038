use Rattle.boc_dispatch.proofs.Alike.{granted_alike}
use Rattle.boc_dispatch.proofs.laws.requests_are_granted_in_one_way.Goals as goal

pub returns : goal.returns
returns c = λ d slot cown l kept is. granted_alike d kept slot cown l is
